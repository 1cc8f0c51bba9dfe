pub mod TallyLemmas
pub mod ScriptLemmas
pub mod PortsLemmas
pub mod AnswersLemmas
