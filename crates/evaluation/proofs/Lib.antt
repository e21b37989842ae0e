-- What is proved of the calls' judgement, rule by rule.
pub mod Refusals
pub mod Judging
pub mod Answering
