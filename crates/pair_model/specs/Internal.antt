-- What contracts of private functions say: no public contract cites it, and a reader of those need not believe it.
pub mod Exchange
