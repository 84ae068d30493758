use Rattle.std.proofs.Common.{◌∙◌, ap, codes, inl, inr, refl, sym, true≢false}
use Rattle.std.specs.Str.{bytes_eq}
use Rattle.std.specs.Box.{box_value}
use Rattle.clap.specs.Words.{found_of, rows_of}
use Rattle.clap.specs.declared.parser.matches.ArgMatches.TheViews.{out-ArgMatches, out-SubCommand}
use Rattle.mrp_commands.specs.declared.choice.Choice.TheVariants.{Cums}
use Rattle.mrp_command_line.proofs.CommandFacts.{meant, other_name, found_whole}
use Rattle.mrp_command_line.proofs.words.chosen.Goals as goal

pub planning-requires : goal.planning-requires
planning-requires c =
    let whole = found_whole (out-ArgMatches c.args.matches.now).subcommand (λ b. (out-SubCommand (box_value b)).name.now)
    (λ b. rows_of (found_of (out-SubCommand (box_value b)).matches))
    c.in-Some.name.now (rows_of (found_of c.in-Some.values.now)) c.in-Some.ensures.name c.in-Some.ensures.rows c.requires in
    elim whole [
      | inl p ↦ p.1
      | inr (inl p) ↦ absurd (true≢false (sym c.if-eq.true ∙ c.eq.ensures ∙ ap (λ n. bytes_eq n (codes "plan")) p.0))
      | inr (inr (inl p)) ↦ absurd (true≢false (sym c.if-eq.true ∙ c.eq.ensures ∙ ap (λ n. bytes_eq n (codes "plan")) p.0))
      | inr (inr (inr (inl p))) ↦ absurd (true≢false (sym c.if-eq.true ∙ c.eq.ensures ∙ ap (λ n. bytes_eq n (codes "plan")) p.0))
      | inr (inr (inr (inr (inl p)))) ↦ absurd (true≢false (sym c.if-eq.true ∙ c.eq.ensures ∙ ap (λ n. bytes_eq n (codes "plan")) p.0))
      | inr (inr (inr (inr (inr (inl p))))) ↦ absurd (true≢false (sym c.if-eq.true ∙ c.eq.ensures ∙ ap (λ n. bytes_eq n (codes "plan")) p.0))
      | inr (inr (inr (inr (inr (inr (inl p)))))) ↦ absurd (true≢false (sym c.if-eq.true ∙ c.eq.ensures ∙ ap (λ n. bytes_eq n (codes "plan")) p.0))
      | inr (inr (inr (inr (inr (inr (inr (inl p))))))) ↦ absurd (true≢false (sym c.if-eq.true ∙ c.eq.ensures ∙ ap (λ n. bytes_eq n (codes "plan")) p.0))
      | inr (inr (inr (inr (inr (inr (inr (inr p))))))) ↦ absurd (true≢false (sym c.if-eq.true ∙ c.eq.ensures ∙ ap (λ n. bytes_eq n (codes "plan")) p.0))
    ]

pub checking-requires : goal.checking-requires
checking-requires c =
    let whole = found_whole (out-ArgMatches c.args.matches.now).subcommand (λ b. (out-SubCommand (box_value b)).name.now)
    (λ b. rows_of (found_of (out-SubCommand (box_value b)).matches))
    c.in-Some.name.now (rows_of (found_of c.in-Some.values.now)) c.in-Some.ensures.name c.in-Some.ensures.rows c.requires in
    elim whole [
      | inl p ↦ absurd (other_name c.in-Some.name.now (codes "plan") c.eq.result c.eq.ensures c.if-eq.false p.0)
      | inr (inl p) ↦ p.1
      | inr (inr (inl p)) ↦ absurd (true≢false (sym c.if-eq-2.true ∙ c.eq-else-eq.ensures ∙ ap (λ n. bytes_eq n (codes "check")) p.0))
      | inr (inr (inr (inl p))) ↦ absurd (true≢false (sym c.if-eq-2.true ∙ c.eq-else-eq.ensures ∙ ap (λ n. bytes_eq n (codes "check")) p.0))
      | inr (inr (inr (inr (inl p)))) ↦ absurd (true≢false (sym c.if-eq-2.true ∙ c.eq-else-eq.ensures ∙ ap (λ n. bytes_eq n (codes "check")) p.0))
      | inr (inr (inr (inr (inr (inl p))))) ↦ absurd (true≢false (sym c.if-eq-2.true ∙ c.eq-else-eq.ensures ∙ ap (λ n. bytes_eq n (codes "check")) p.0))
      | inr (inr (inr (inr (inr (inr (inl p)))))) ↦ absurd (true≢false (sym c.if-eq-2.true ∙ c.eq-else-eq.ensures ∙ ap (λ n. bytes_eq n (codes "check")) p.0))
      | inr (inr (inr (inr (inr (inr (inr (inl p))))))) ↦ absurd (true≢false (sym c.if-eq-2.true ∙ c.eq-else-eq.ensures ∙ ap (λ n. bytes_eq n (codes "check")) p.0))
      | inr (inr (inr (inr (inr (inr (inr (inr p))))))) ↦ absurd (true≢false (sym c.if-eq-2.true ∙ c.eq-else-eq.ensures ∙ ap (λ n. bytes_eq n (codes "check")) p.0))
    ]

pub pegging-requires : goal.pegging-requires
pegging-requires c =
    let whole = found_whole (out-ArgMatches c.args.matches.now).subcommand (λ b. (out-SubCommand (box_value b)).name.now)
    (λ b. rows_of (found_of (out-SubCommand (box_value b)).matches))
    c.in-Some.name.now (rows_of (found_of c.in-Some.values.now)) c.in-Some.ensures.name c.in-Some.ensures.rows c.requires in
    elim whole [
      | inl p ↦ absurd (other_name c.in-Some.name.now (codes "plan") c.eq.result c.eq.ensures c.if-eq.false p.0)
      | inr (inl p) ↦ absurd (other_name c.in-Some.name.now (codes "check") c.eq-else-eq.result c.eq-else-eq.ensures c.if-eq-2.false p.0)
      | inr (inr (inl p)) ↦ p.1
      | inr (inr (inr (inl p))) ↦ absurd (true≢false (sym c.if-eq-3.true ∙ c.eq-else-eq-2.ensures ∙ ap (λ n. bytes_eq n (codes "peg")) p.0))
      | inr (inr (inr (inr (inl p)))) ↦ absurd (true≢false (sym c.if-eq-3.true ∙ c.eq-else-eq-2.ensures ∙ ap (λ n. bytes_eq n (codes "peg")) p.0))
      | inr (inr (inr (inr (inr (inl p))))) ↦ absurd (true≢false (sym c.if-eq-3.true ∙ c.eq-else-eq-2.ensures ∙ ap (λ n. bytes_eq n (codes "peg")) p.0))
      | inr (inr (inr (inr (inr (inr (inl p)))))) ↦ absurd (true≢false (sym c.if-eq-3.true ∙ c.eq-else-eq-2.ensures ∙ ap (λ n. bytes_eq n (codes "peg")) p.0))
      | inr (inr (inr (inr (inr (inr (inr (inl p))))))) ↦ absurd (true≢false (sym c.if-eq-3.true ∙ c.eq-else-eq-2.ensures ∙ ap (λ n. bytes_eq n (codes "peg")) p.0))
      | inr (inr (inr (inr (inr (inr (inr (inr p))))))) ↦ absurd (true≢false (sym c.if-eq-3.true ∙ c.eq-else-eq-2.ensures ∙ ap (λ n. bytes_eq n (codes "peg")) p.0))
    ]

pub reporting-requires : goal.reporting-requires
reporting-requires c =
    let whole = found_whole (out-ArgMatches c.args.matches.now).subcommand (λ b. (out-SubCommand (box_value b)).name.now)
    (λ b. rows_of (found_of (out-SubCommand (box_value b)).matches))
    c.in-Some.name.now (rows_of (found_of c.in-Some.values.now)) c.in-Some.ensures.name c.in-Some.ensures.rows c.requires in
    elim whole [
      | inl p ↦ absurd (other_name c.in-Some.name.now (codes "plan") c.eq.result c.eq.ensures c.if-eq.false p.0)
      | inr (inl p) ↦ absurd (other_name c.in-Some.name.now (codes "check") c.eq-else-eq.result c.eq-else-eq.ensures c.if-eq-2.false p.0)
      | inr (inr (inl p)) ↦ absurd (other_name c.in-Some.name.now (codes "peg") c.eq-else-eq-2.result c.eq-else-eq-2.ensures c.if-eq-3.false p.0)
      | inr (inr (inr (inl p))) ↦ absurd (other_name c.in-Some.name.now (codes "cums") c.eq-else-eq-3.result c.eq-else-eq-3.ensures c.if-eq-4.false p.0)
      | inr (inr (inr (inr p))) ↦ p
    ]

pub returns-then-eq : goal.returns-then-eq
returns-then-eq c = record {
  range = c.planning.ensures.range;
  choice =
      meant (out-ArgMatches c.args.matches.now).subcommand (λ b. (out-SubCommand (box_value b)).name.now)
      (λ b. rows_of (found_of (out-SubCommand (box_value b)).matches))
      c.in-Some.name.now (codes "plan") (rows_of (found_of c.in-Some.values.now)) c.planning.result c.eq.result c.in-Some.ensures.name c.in-Some.ensures.rows
      c.eq.ensures c.if-eq.true c.planning.ensures.choice;
}

pub returns-then-eq-2 : goal.returns-then-eq-2
returns-then-eq-2 c = record {
  range = c.checking.ensures.range;
  choice =
      meant (out-ArgMatches c.args.matches.now).subcommand (λ b. (out-SubCommand (box_value b)).name.now)
      (λ b. rows_of (found_of (out-SubCommand (box_value b)).matches))
      c.in-Some.name.now (codes "check") (rows_of (found_of c.in-Some.values.now)) c.checking.result c.eq-else-eq.result c.in-Some.ensures.name
      c.in-Some.ensures.rows c.eq-else-eq.ensures c.if-eq-2.true c.checking.ensures.choice;
}

pub returns-then-eq-3 : goal.returns-then-eq-3
returns-then-eq-3 c = record {
  range = c.pegging.ensures.range;
  choice =
      meant (out-ArgMatches c.args.matches.now).subcommand (λ b. (out-SubCommand (box_value b)).name.now)
      (λ b. rows_of (found_of (out-SubCommand (box_value b)).matches))
      c.in-Some.name.now (codes "peg") (rows_of (found_of c.in-Some.values.now)) c.pegging.result c.eq-else-eq-2.result c.in-Some.ensures.name
      c.in-Some.ensures.rows c.eq-else-eq-2.ensures c.if-eq-3.true c.pegging.ensures.choice;
}

pub returns-then-eq-4 : goal.returns-then-eq-4
returns-then-eq-4 c = record {
  range = tt;
  choice =
      meant (out-ArgMatches c.args.matches.now).subcommand (λ b. (out-SubCommand (box_value b)).name.now)
      (λ b. rows_of (found_of (out-SubCommand (box_value b)).matches))
      c.in-Some.name.now (codes "cums") (rows_of (found_of c.in-Some.values.now))
      (Cums c.heading.result) c.eq-else-eq-3.result c.in-Some.ensures.name c.in-Some.ensures.rows c.eq-else-eq-3.ensures c.if-eq-4.true
      (refl, c.heading.ensures);
}
