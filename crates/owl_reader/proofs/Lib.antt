mod RefusalLemmas
pub mod NameLemmas
mod AddingLemmas
mod SayingLemmas
mod ItemLemmas
pub mod StandingLemmas
