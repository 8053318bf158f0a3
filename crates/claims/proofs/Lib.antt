pub mod CallLaws
pub mod CasesHold
