pub mod NumberLaws
pub mod ContentsLaws
pub mod JudgingLaws
