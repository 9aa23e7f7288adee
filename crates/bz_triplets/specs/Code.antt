pub mod TripletsView
