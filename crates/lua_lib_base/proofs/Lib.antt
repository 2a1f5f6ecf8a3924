mod AnswerLemmas
mod LawLemmas
