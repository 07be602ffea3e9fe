pub mod ArgumentLemmas
pub mod CountLemmas
pub mod FrameLemmas
pub mod HandlerLemmas
pub mod KeptLemmas
