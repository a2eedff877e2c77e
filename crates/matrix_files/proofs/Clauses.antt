-- What a call that writes answers, as the clauses that it has.
pub written : {A B C : Type 0} → A × (B × C) → record { result : A; output : B; round_trip : C }
written h = record { result = h.0; output = h.1.0; round_trip = h.1.1 }
