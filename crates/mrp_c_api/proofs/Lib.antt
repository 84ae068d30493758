-- The library for C, proofs: what its calls answer.
mod AnswerFacts
