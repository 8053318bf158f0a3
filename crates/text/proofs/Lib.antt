pub mod WritingLaws
pub mod DecimalLaws
pub mod EachLaws
