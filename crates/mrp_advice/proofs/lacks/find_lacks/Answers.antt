use Rattle.std.proofs.Common.{◌≡◌, ◌∙◌, ℕ, List, ap, arith, length, sum}
use Rattle.std.proofs.lemmas.List.FromFn.{length-map-range_with_len}
use Rattle.mrp_netting.specs.PlanningBound.{IsWithinData}
use Rattle.mrp_netting.specs.declared.params.PairParams.{PairParams}
use Rattle.mrp_netting.specs.declared.planning_data.Policy.{Policy}
use Rattle.mrp_master_data.specs.Rows.{params_of}
use Rattle.mrp_master_data.specs.Table.{horizon}
use Rattle.mrp_net.specs.Plan.{gross, pair_data}
use Rattle.mrp_net.specs.Policies.{policy_of}
use Rattle.mrp_net.specs.Sums.{params_at, row_of}
use Rattle.mrp_loops.proofs.Within.{data_within}
use Rattle.mrp_plan.proofs.Pegs.{fitting_gross}
use Rattle.mrp_advice.specs.Lacking.{lack_of_stock}
use Rattle.mrp_advice.proofs.LackFacts.{lack_of_stock_is}
use Rattle.mrp_advice.proofs.lacks.find_lacks.Goals as goal
use Rattle.mrp_advice.proofs.lacks.find_lacks.Goals.{After-gross-gross, Start}

-- the horizon is that of the gross requirements
periods : (c : Start) → length (pair_data c.args.network.now c.args.plan.now c.args.x.0).gross ≡ horizon c.args.network.now
periods c = length-map-range_with_len (gross c.args.network.now c.args.plan.now c.args.x.0) 0 (horizon c.args.network.now)

within : (c : Start) → IsWithinData (pair_data c.args.network.now c.args.plan.now c.args.x.0)
within c = data_within c.args.network.now c.requires.sized c.args.plan.now c.requires.fits c.args.x.0 c.requires.pair

-- what was read of the pair
required : (c : After-gross-gross) → c.gross-gross.result.now ≡ row_of c.args.network.now (gross c.args.network.now c.args.plan.now c.args.x.0)
required c = let own = fitting_gross c.args.network.now c.args.plan.now c.args.x.0 c.requires.fits c.requires.pair in cc

params : (c : After-gross-gross) → c.params-params.result ≡ params_at c.args.network.now c.args.x.0
params c = c.params-params.ensures ∙ ap params_of c.pair.ensures

pub returns-then-policy-gt0-clause-lacks : goal.returns-then-policy-gt0-clause-lacks
returns-then-policy-gt0-clause-lacks c = record {
  receipts = λ some. c.count_sooner.ensures.receipts;
  others = c.count_sooner.ensures.others;
}

pub returns-then-policy-gt0-clause-room : goal.returns-then-policy-gt0-clause-room
returns-then-policy-gt0-clause-room c =
    let size = periods (goal.at.returns-then-policy-gt0-clause-room c).Start in
    record {
      receipts = c.count_sooner.ensures.receipts.size ∙ size;
      others = c.count_sooner.ensures.others.size ∙ size;
    }

pub find_lack_of_stock-requires-clause-asked : goal.find_lack_of_stock-requires-clause-asked
find_lack_of_stock-requires-clause-asked c =
    let at = goal.at.find_lack_of_stock-requires-clause-asked c in
    omega (
      arith,
      ap (λ (p : PairParams). p.safety) (params at.After-gross-gross),
      ap (λ (row : List ℕ). sum row) (required at.After-gross-gross),
      (within at.Start).total,
    )

pub find_lack_of_stock-requires-clause-cover : goal.find_lack_of_stock-requires-clause-cover
find_lack_of_stock-requires-clause-cover c =
    omega (
      arith,
      ap (λ (p : Policy). p.cover) c.policy-policy.ensures,
      (within (goal.at.find_lack_of_stock-requires-clause-cover c).Start).cover,
    )

pub find_lack_of_stock-requires-clause-room : goal.find_lack_of_stock-requires-clause-room
find_lack_of_stock-requires-clause-room c =
    let at = goal.at.find_lack_of_stock-requires-clause-room c in
    omega (arith, c.requires.room.others, ap (λ (row : List ℕ). length row) (required at.After-gross-gross), periods at.Start)

pub returns-clause-lacks : goal.returns-clause-lacks
returns-clause-lacks c =
    let N = c.args.network.now in
    let x = c.args.x.0 in
    let at = goal.at.returns-clause-lacks c in
    let row = required at.After-gross-gross in
    let size = ap (λ (r : List ℕ). length r) row in
    let policy = c.policy-policy.ensures in
    let none : (policy_of N x).sooner ≡ 0 = omega (arith, ap (λ (p : Policy). p.sooner) policy) in
    record {
      receipts = λ some. absurd (omega (arith, some, none));
      others = record {
        size = omega (arith, c.find_lack_of_stock.ensures.size, size);
        each = λ t h.
            c.find_lack_of_stock.ensures.each t (omega (arith, h, size))
            ∙ ap (λ (p : PairParams). lack_of_stock p c.policy-policy.result.cover c.gross-gross.result.now t) (params at.After-gross-gross)
            ∙ ap (λ (p : Policy). lack_of_stock (params_at N x) p.cover c.gross-gross.result.now t) policy
            ∙ ap (λ (r : List ℕ). lack_of_stock (params_at N x) (policy_of N x).cover r t) row
            ∙ lack_of_stock_is N c.args.plan.now x none t;
      };
    }

pub returns-clause-room : goal.returns-clause-room
returns-clause-room c =
    let at = goal.at.returns-clause-room c in
    record {
      receipts = c.requires.room.receipts;
      others = omega (arith, c.find_lack_of_stock.ensures.size, ap (λ (row : List ℕ). length row) (required at.After-gross-gross), periods at.Start);
    }
