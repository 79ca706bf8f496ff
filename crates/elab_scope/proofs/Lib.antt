pub mod DeclaredLaws
pub mod MentionLaws
