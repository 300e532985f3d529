pub mod GroupLemmas
mod ManyLemmas
mod AnnotationLemmas
