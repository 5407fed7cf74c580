mod SharedLaws
mod AnswerLaws
