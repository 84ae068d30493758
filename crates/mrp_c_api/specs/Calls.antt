-- The library for C: what each call answers, of the bytes of a table that is read so, with the options that it is given.
use Rattle.std.specs.Prelude.{ℕ, Bool, List}
use Rattle.mrp_commands.specs.declared.reading.Reading.{Reading}
use Rattle.mrp_report.specs.Headings.{code_names, lane_names}
use Rattle.mrp_api.specs.Refusals.{AskWhole}
use Rattle.mrp_api.specs.Reports.{IsAdviceReport, IsCodeReport, IsCumReport, IsHeaded, IsOrderReport, IsReachReport}
use Rattle.mrp_api.specs.Reports.{IsShortagesReport}
use Rattle.mrp_api.specs.Text.{IsPlanReport}
use Rattle.mrp_c_api.specs.Answers.{Answers, AnswersNamed}
use Rattle.mrp_c_api.specs.Options.{heading_of, limit_of}

-- the plan
abbrev pub AnswersPlan : List ℕ → Reading → ℕ → List ℕ → List ℕ → ℕ → Type 0
AnswersPlan bytes reading = Answers bytes reading AskWhole IsPlanReport

-- planned and firm orders, where it is limited those that are released by then
abbrev pub AnswersOrders : List ℕ → Reading → Bool → ℕ → Bool → ℕ → List ℕ → List ℕ → ℕ → Type 0
AnswersOrders bytes reading limited until header =
    Answers bytes reading AskWhole (IsOrderReport (limit_of limited until) (heading_of header))

-- delivery schedules, of the plants that are named
abbrev pub AnswersSchedules : List ℕ → Reading → List ℕ → List ℕ → Bool → ℕ → List ℕ → List ℕ → ℕ → Type 0
AnswersSchedules bytes reading from to header = AnswersNamed bytes reading from to (heading_of header)

-- low-level codes
abbrev pub AnswersCodes : List ℕ → Reading → Bool → ℕ → List ℕ → List ℕ → ℕ → Type 0
AnswersCodes bytes reading header =
    Answers bytes reading AskWhole (λ N. IsHeaded (heading_of header) code_names (IsCodeReport N))

-- until when each pair is whole
abbrev pub AnswersReach : List ℕ → Reading → Bool → ℕ → List ℕ → List ℕ → ℕ → Type 0
AnswersReach bytes reading header = Answers bytes reading AskWhole (IsReachReport (heading_of header))

-- cumulative figures
abbrev pub AnswersFigures : List ℕ → Reading → Bool → ℕ → List ℕ → List ℕ → ℕ → Type 0
AnswersFigures bytes reading header =
    Answers bytes reading AskWhole (λ N. IsHeaded (heading_of header) lane_names (IsCumReport N))

-- exception messages, where it is limited of orders that come by then
abbrev pub AnswersMessages : List ℕ → Reading → Bool → ℕ → Bool → Bool → ℕ → List ℕ → List ℕ → ℕ → Type 0
AnswersMessages bytes reading limited until reach header =
    Answers bytes reading AskWhole (IsAdviceReport (limit_of limited until) reach (heading_of header))

-- requirements that lack parts
abbrev pub AnswersShortages : List ℕ → Reading → Bool → ℕ → List ℕ → List ℕ → ℕ → Type 0
AnswersShortages bytes reading header = Answers bytes reading AskWhole (IsShortagesReport (heading_of header))
