use Rattle.std.proofs.Common.{◌≡◌, ℕ, ◌≤◌, ◌==◌, if◌then◌else◌, List, slice_index, sum_by, arith}
use Rattle.std.proofs.lemmas.Bool.{cond_both}
use Rattle.std.proofs.lemmas.Grind.{common_steps}
use Rattle.std.proofs.lemmas.List.Sums.{sum_by-le-sum_by}
use Rattle.mrp_grouping.specs.Added.{sum_of}
use Rattle.mrp_master_data.specs.declared.rows.FirmRow.{FirmRow}
use Rattle.mrp_net.proofs.firm_rows.write_sums.Goals as goal

-- the orders of a period are among all
some-le : (key : FirmRow → ℕ) (t : ℕ) (orders : List FirmRow) → sum_of key (λ f. f.quantity) t orders ≤ sum_by (λ f. f.quantity) orders
some-le key t orders =
    sum_by-le-sum_by (λ (f : FirmRow). if key f == t then f.quantity else 0) (λ f. f.quantity) orders
    (λ f. cond_both (key f == t) f.quantity 0 (λ n. n ≤ f.quantity) (λ _. omega arith) (λ _. omega arith))

pub returns-clause-sums : goal.returns-clause-sums
returns-clause-sums g c = λ t within.
    let none : slice_index c.fill.new.self t ≡ 0 = grind (arith, common_steps) in
    omega (arith, c.add_totals.ensures t (omega (arith, c.fill.ensures.len, within)), none, some-le (g.K.KeyOf.key_of c.args.by.now) t c.args.orders.now, c.requires.total)
