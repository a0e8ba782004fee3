mod Common
mod ListLemmas
mod SameSpots
mod LedLemmas
mod GroupLemmas
mod SingleLemmas
mod ViewLemmas
mod StepsLemmas
mod LeadsLemmas
mod FollowLemmas
mod EndLemmas
mod Contained
mod Replacing
mod TextLemmas
mod TransliterateLemmas
mod SelectLemmas
mod StepLemmas
pub mod RunLemmas
