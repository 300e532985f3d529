-- Lemmas, lowest first.
pub mod WholeTexts
pub mod MarkedTexts
pub mod BareTexts
pub mod StreamNames
pub mod OwnLines
pub mod AloneLaw
pub mod OneText
