pub mod Lists
pub mod RunLaws
pub mod OrderLaws
pub mod MentionLaws
pub mod GroupLaws
pub mod SoundLaws
pub mod KnownLaws
pub mod PortLaws
pub mod DrivenLaws
pub mod NameLaws
pub mod SettledLaws
pub mod DifferLaws
pub mod BitLaws
pub mod OneLaws
mod CarriedLaws
mod CarriedRuns
mod FlatPorts
pub mod WidthLaws
pub mod CheckLaws
pub mod GateLaws
pub mod TableLaws
pub mod LeafLaws
pub mod UnfoldedLaws
pub mod ExistLaws
pub mod CountLaws
pub mod NumberLaws
pub mod OneFlatLaws
pub mod OneRawLaws
pub mod FaultLaws
