pub mod Chain
pub mod ChainView
pub mod ChainFinished
pub mod NeverOther
