-- The library: bytes of a table have one text of each report, as their plan is one, and those that have a report are
-- not refused. A text that is cut off has no other report where its table has to be whole.
use Rattle.std.proofs.Common.{◌≡◌, ℕ, Bool, true, false, List, ◌++◌, Option, Some, None, Ok, Err, refl, sym, ap, ◌∙◌, subst, ⊎_elim, arith}
use Rattle.std.proofs.lemmas.Bool.{true≢false}
use Rattle.csv.specs.Reading.{strip_bom, records, default_config}
use Rattle.mrp_netting.specs.PlanRows.{PlanRows}
use Rattle.mrp_master_data.specs.Table.{Table, IsTable, pair_no}
use Rattle.mrp_net.specs.Sums.{pair_at}
use Rattle.mrp_validation.specs.declared.fault.TableFault.{TableFault}
use Rattle.mrp_validation.specs.declared.fault.TableFaultKind.{TableFaultKind}
use Rattle.mrp_validation.specs.declared.fault.TableFaultKind.TheVariants as kind
use Rattle.mrp_validation.specs.Reading.{OfRows, Reads, ReadsAs}
use Rattle.mrp_validation.proofs.Asked.{one_way_as, whole_end}
use Rattle.mrp_validation.proofs.OneWay.{reads_one_way}
use Rattle.mrp_net.specs.Names.{IsNamed}
use Rattle.mrp_net.specs.Plan.{plan_of}
use Rattle.mrp_net.specs.PlanLaws.{Fits, OfPlan}
use Rattle.mrp_net.proofs.Naming.{same_place}
use Rattle.mrp_net.proofs.Sharing.{pairs_are_found}
use Rattle.mrp_loops.specs.Loop.{IsLoopFree}
use Rattle.mrp_loops.specs.Sized.{IsSized}
use Rattle.mrp_loops.proofs.OnePlan.{one_plan}
use Rattle.mrp_loops.proofs.Upstream.{codes_are_one}
use Rattle.mrp_loops.proofs.Within.{needs_within}
use Rattle.mrp_plan.specs.Peg.{peg_terms}
use Rattle.mrp_commands.specs.declared.choice.Heading.{Heading}
use Rattle.mrp_csv_out.specs.Headings.{header_row}
use Rattle.mrp_report.specs.Report.{plan_text, late_text}
use Rattle.mrp_report.specs.Codes.{code_text}
use Rattle.mrp_report.specs.Terms.{peg_text}
use Rattle.mrp_report.specs.Orders.{order_text}
use Rattle.mrp_report.specs.Pegs.{pegs_text}
use Rattle.mrp_reach.specs.ReachRows.{reach_text}
use Rattle.mrp_reach.proofs.WholePeriods.{wholes_are_one}
use Rattle.mrp_advice.specs.AdviceRows.{advice_text}
use Rattle.mrp_shortages.specs.ShortageRows.{shortage_text}
use Rattle.mrp_commands.specs.Given.{name_of}
use Rattle.mrp_commands.specs.declared.choice.Choice.{Choice}
use Rattle.mrp_commands.specs.declared.choice.Choice.TheVariants.{Plan, Check, Reach, Peg, Cums, Orders, Schedule, Pegs, Advice, Shortages}
use Rattle.mrp_commands.specs.declared.reading.Reading.{Reading}
use Rattle.mrp_api.specs.declared.fault.TextFault.{TextFault}
use Rattle.mrp_api.specs.declared.fault.TextFault.TheVariants as fault
use Rattle.mrp_api.specs.Answer.{IsAnswer, question_of}
use Rattle.mrp_api.specs.Fault.{status_of, table_status_of}
use Rattle.mrp_api.specs.Laws.{BytesMakeOneTable, CutTablesAreOne, CutTablesHaveNoOtherReport, ReportsAreOne, ReportsExcludeRefusals}
use Rattle.mrp_api.specs.Laws.{RequestsExcludeRefusals}
use Rattle.mrp_api.specs.Text.{IsPlanReport}
use Rattle.mrp_api.specs.Refusals.{LacksPair, LacksPeriod, LacksPlant, IsNoPlant, IsNoSupplier, RefusesTable}
use Rattle.mrp_api.specs.Reports.{AreWholeIf, IsAdviceReport, IsHeaded, IsCodeReport, IsCumReport, IsPegReport, IsPlanRows, IsReachReport}
use Rattle.mrp_api.proofs.CutFacts.{cut_off}
use Rattle.mrp_api.proofs.TableFacts.{tables_are_read}
use Rattle.mrp_api.specs.Reports.{IsKnownPlant, IsKnownSupplier, IsPegsReport}
use Rattle.mrp_qty.specs.declared.limits.LimitSet.TheVariants as set

-- ---- the plan

-- a table of plans that fits is the plan of the network
the_plan : (N : Table) (plans : List PlanRows) → IsSized N → Fits N plans → plans ≡ plan_of N
the_plan N plans sized fits = (one_plan N sized.table sized.loop_free).only plans fits

-- a text that is made of it is one
one_of_plan : (N : Table) (text : List PlanRows → List ℕ) (a b : List ℕ) → IsSized N → OfPlan N (λ plans. a ≡ text plans) → OfPlan N (λ plans. b ≡ text plans)
    → a ≡ b
one_of_plan N text a b sized x y = x.2 ∙ ap text (the_plan N x.0 sized x.1 ∙ sym (the_plan N y.0 sized y.1)) ∙ sym y.2

-- so its rows are the plan report
pub is_plan_report : (N : Table) (plans : List PlanRows) → IsSized N → Fits N plans → IsPlanReport N (plan_text N plans ++ late_text N plans)
is_plan_report N plans sized fits = (sized, (plans, fits, refl))

-- and its plan rows those of the network
pub are_plan_rows : (N : Table) (plans : List PlanRows) → IsSized N → Fits N plans → IsPlanRows N (plan_text N plans)
are_plan_rows N plans sized fits = (sized, (plans, fits, refl))

-- ---- one report

-- bytes make one table
pub one_table : BytesMakeOneTable
one_table limits bytes N M a b =
    let same = reads_one_way limits (records default_config (strip_bom bytes)) (Ok N) (Ok M) ((tables_are_read limits bytes N).0 a)
    ((tables_are_read limits bytes M).0 b) in
    cc

-- names are those of one pair
one_named : (N : Table) (x y : ℕ) (plant item : List ℕ) → IsTable N → IsNamed N x plant item → IsNamed N y plant item → x ≡ y
one_named N x y plant item table a b =
    sym (pairs_are_found N table x a.pair)
    ∙ ap (λ (p : ℕ). pair_no N p (pair_at N x).item.0) (same_place N.plants (pair_at N x).plant.0
    (pair_at N y).plant.0 plant table.once.plants a.at_plant b.at_plant)
    ∙ ap (λ (i : ℕ). pair_no N (pair_at N y).plant.0 i) (same_place N.items (pair_at N x).item.0 (pair_at N y).item.0 item table.once.items a.of_item b.of_item)
    ∙ pairs_are_found N table y b.pair

one_peg_report : (plant item : List ℕ) (period : ℕ) (N : Table) (a b : List ℕ) → IsTable N → IsPegReport plant item period N a
    → IsPegReport plant item period N b → a ≡ b
one_peg_report plant item period N a b table x y =
    one_of_plan N (λ plans. peg_text N (peg_terms N plans y.0 period)) a b x.2.0
    (subst (λ (p : ℕ). OfPlan N (λ plans. a ≡ peg_text N (peg_terms N plans p period))) (one_named N x.0 y.0 plant item table x.1 y.1) x.2.2) y.2.2

one_code_report : (N : Table) (a b : List ℕ) → IsCodeReport N a → IsCodeReport N b → a ≡ b
one_code_report N a b x y = x.1.2 ∙ ap (code_text N) (codes_are_one N x.1.0 y.1.0 x.1.1 y.1.1) ∙ sym y.1.2

-- how far the requirements are whole, where that is asked, is one
wholes_if_one : (reach : Bool) (N : Table) (a b : Option (List ℕ)) → IsTable N → IsLoopFree N → AreWholeIf reach N a → AreWholeIf reach N b → a ≡ b
wholes_if_one true N (Some a) (Some b) table free x y = ap (λ (wholes : List ℕ). Some wholes) (wholes_are_one N table free a b x y)
wholes_if_one true N (Some a) None table free x y = absurd y
wholes_if_one true N None b table free x y = absurd x
wholes_if_one false N None None table free x y = refl
wholes_if_one false N None (Some b) table free x y = absurd y
wholes_if_one false N (Some a) b table free x y = absurd x

one_reach_report : (heading : Heading) (N : Table) (a b : List ℕ) → IsTable N → IsReachReport heading N a → IsReachReport heading N b → a ≡ b
one_reach_report heading N a b table x y =
    x.1.2 ∙ ap (reach_text heading N) (wholes_are_one N table x.0.loop_free x.1.0 y.1.0 x.1.1 y.1.1) ∙ sym y.1.2

one_advice_report : (until : Option ℕ) (reach : Bool) (heading : Heading) (N : Table) (a b : List ℕ) → IsTable N → IsAdviceReport until reach heading N a
    → IsAdviceReport until reach heading N b → a ≡ b
one_advice_report until reach heading N a b table x y =
    one_of_plan N (advice_text heading y.1.0 until N) a b x.0
    (subst (λ (wholes : Option (List ℕ)). OfPlan N (λ plans. a ≡ advice_text heading wholes until N plans))
    (wholes_if_one reach N x.1.0 y.1.0 table x.0.loop_free x.1.1 y.1.1) x.1.2) y.1.2

-- names above rows that are one don't make two
one_headed : (heading : Heading) (names : List (List ℕ)) (P : List ℕ → Type 0) (a b : List ℕ) → ((c d : List ℕ) → P c → P d → c ≡ d)
    → IsHeaded heading names P a → IsHeaded heading names P b → a ≡ b
one_headed heading names P a b one x y = x.2 ∙ ap (λ (rows : List ℕ). header_row heading names ++ rows) (one x.0 y.0 x.1 y.1) ∙ sym y.2

one_answer : (choice : Choice) (N : Table) (a b : List ℕ) → IsTable N → IsAnswer choice N a → IsAnswer choice N b → a ≡ b
one_answer (Plan workers capacity single) N a b table x y = one_of_plan N (λ plans. plan_text N plans ++ late_text N plans) a b x.0 x.1 y.1
one_answer (Check heading) N a b table x y = one_headed heading _ (IsCodeReport N) a b (one_code_report N) x y
one_answer (Reach heading) N a b table x y = one_reach_report heading N a b table x y
one_answer (Peg plant item period heading) N a b table x y =
    one_headed heading _ (IsPegReport plant.now item.now period N) a b (λ c d p q. one_peg_report plant.now item.now period N c d table p q) x y
one_answer (Cums heading) N a b table x y = one_headed heading _ (IsCumReport N) a b (λ c d p q. p.1 ∙ sym q.1) x y
one_answer (Orders until heading) N a b table x y = one_of_plan N (order_text heading until N) a b x.0 x.1 y.1
one_answer (Schedule from to heading) N a b table x y = x.2.1 ∙ sym y.2.1
one_answer (Pegs heading) N a b table x y = one_headed heading _ (IsPegsReport N) a b (λ c d p q. one_of_plan N (pegs_text N) c d p.0 p.1 q.1) x y
one_answer (Advice until reach heading) N a b table x y = one_advice_report until reach heading N a b table x y
one_answer (Shortages heading) N a b table x y = one_of_plan N (shortage_text heading N) a b x.0 x.1 y.1

pub one_report : ReportsAreOne
one_report limits choice bytes a b x y =
    one_answer choice y.0 a b y.1.table (subst (λ (N : Table). IsAnswer choice N a) (one_table limits bytes x.0 y.0 x.1 y.1) x.2) y.2

-- ---- no refusal beside it

-- a report is of a table that can be planned
answer_sized : (choice : Choice) (N : Table) (text : List ℕ) → IsAnswer choice N text → IsSized N
answer_sized (Plan workers capacity single) N text is = is.0
answer_sized (Check heading) N text is = is.1.0
answer_sized (Reach heading) N text is = is.0
answer_sized (Peg plant item period heading) N text is = is.1.2.0
answer_sized (Cums heading) N text is = is.1.0
answer_sized (Orders until heading) N text is = is.0
answer_sized (Schedule from to heading) N text is = is.2.0
answer_sized (Pegs heading) N text is = is.1.0
answer_sized (Advice until reach heading) N text is = is.0
answer_sized (Shortages heading) N text is = is.0

-- a report about a pair and a period is of a pair and a period that are there
pair_known : (choice : Choice) (N : Table) (text : List ℕ) → IsAnswer choice N text → LacksPair (question_of choice) N → ⊥
pair_known (Plan workers capacity true) N text is unknown = unknown
pair_known (Plan workers capacity false) N text is unknown = unknown
pair_known (Check heading) N text is unknown = unknown
pair_known (Reach heading) N text is unknown = unknown
pair_known (Peg plant item period heading) N text is unknown = unknown is.1.0 is.1.1
pair_known (Cums heading) N text is unknown = unknown
pair_known (Orders until heading) N text is unknown = unknown
pair_known (Schedule from to heading) N text is unknown = unknown
pair_known (Pegs heading) N text is unknown = unknown
pair_known (Advice until reach heading) N text is unknown = unknown
pair_known (Shortages heading) N text is unknown = unknown

period_known : (choice : Choice) (N : Table) (text : List ℕ) → IsAnswer choice N text → LacksPeriod (question_of choice) N → ⊥
period_known (Plan workers capacity true) N text is unknown = unknown
period_known (Plan workers capacity false) N text is unknown = unknown
period_known (Check heading) N text is unknown = unknown
period_known (Reach heading) N text is unknown = unknown
period_known (Peg plant item period heading) N text is unknown = absurd (omega (arith, unknown.2, is.1.2.1))
period_known (Cums heading) N text is unknown = unknown
period_known (Orders until heading) N text is unknown = unknown
period_known (Schedule from to heading) N text is unknown = unknown
period_known (Pegs heading) N text is unknown = unknown
period_known (Advice until reach heading) N text is unknown = unknown
period_known (Shortages heading) N text is unknown = unknown

-- one about plants and vendors is of those that are there
name_known : (N : Table) (name : Option (List ℕ)) → IsKnownPlant N name → IsNoPlant N name → ⊥
name_known N None is unknown = unknown
name_known N (Some name) is unknown = unknown is

supplier_known : (N : Table) (name : Option (List ℕ)) → IsKnownSupplier N name → IsNoSupplier N name → ⊥
supplier_known N None is unknown = unknown
supplier_known N (Some name) is unknown = ⊎_elim unknown.0 (λ vendor. true≢false (sym vendor ∙ unknown.1)) is

plant_known : (choice : Choice) (N : Table) (text : List ℕ) → IsAnswer choice N text → LacksPlant (question_of choice) N → ⊥
plant_known (Plan workers capacity true) N text is unknown = unknown
plant_known (Plan workers capacity false) N text is unknown = unknown
plant_known (Check heading) N text is unknown = unknown
plant_known (Reach heading) N text is unknown = unknown
plant_known (Peg plant item period heading) N text is unknown = unknown
plant_known (Cums heading) N text is unknown = unknown
plant_known (Orders until heading) N text is unknown = unknown
plant_known (Schedule from to heading) N text is unknown = ⊎_elim (supplier_known N (name_of from) is.0) (name_known N (name_of to) is.1) unknown
plant_known (Pegs heading) N text is unknown = unknown
plant_known (Advice until reach heading) N text is unknown = unknown
plant_known (Shortages heading) N text is unknown = unknown

-- so a table of which there is a report isn't refused
answer_passes : (choice : Choice) (N : Table) (text : List ℕ) (f : TextFault) → IsAnswer choice N text → RefusesTable (question_of choice) N f → status_of f ≡ 3
answer_passes choice N text (fault.Table e) is said = absurd said
answer_passes choice N text (fault.Loop names) is said = absurd ((answer_sized choice N text is).loop_free said.0 said.1.found.loop)
answer_passes choice N text (fault.SupplyTooLarge name) is said =
    let sized = answer_sized choice N text is in
    let x = said.1.0 in
    absurd (omega (arith, said.1.1.above, sized.within x said.1.1.pair))
answer_passes choice N text (fault.NeedTooLarge name) is said =
    let sized = answer_sized choice N text is in
    let x = said.1.2.0 in
    let large = said.1.2.1 in
    absurd (omega (arith, large.above, needs_within N sized large.needs large.are_needs x large.pair))
answer_passes choice N text fault.NoPair is said = absurd (pair_known choice N text is said.1)
answer_passes choice N text fault.NoPeriod is said = absurd (period_known choice N text is said.1)
answer_passes choice N text fault.NoPlant is said = absurd (plant_known choice N text is said.1)
answer_passes choice N text fault.ThreadRefused is said = refl
answer_passes choice N text (fault.GateShut name) is said = refl
answer_passes choice N text fault.Stopped is said = refl
answer_passes choice N text fault.WriteFault is said = refl
answer_passes choice N text fault.Memory is said = refl

-- nor are rows that make a table
rows_pass : (rows : List (List (List ℕ))) (N : Table) (e : TableFault) (k : TableFaultKind) (above : Type 0) → Reads set.Usual rows (Ok N)
    → OfRows k above (Reads set.Usual rows (Err e)) → table_status_of k ≡ 3
rows_pass rows N e kind.ReadFault above read said = refl
rows_pass rows N e kind.Memory above read said = refl
rows_pass rows N e _ above read said = let same = reads_one_way set.Usual rows (Ok N) (Err e) read said in absurd (cc)

pub accepted_passes : ReportsExcludeRefusals
accepted_passes choice bytes text (fault.Table e) is said = rows_pass (records default_config (strip_bom bytes)) is.0 e e.kind _
    ((tables_are_read set.Usual bytes is.0).0 is.1) said
accepted_passes choice bytes text fault.Memory is said = refl
accepted_passes choice bytes text f is said =
    answer_passes choice is.0 text f is.2 (subst (λ (N : Table). RefusesTable (question_of choice) N f) (one_table set.Usual bytes said.0 is.0 said.1 is.1)
    said.2)

-- nor where a request says how the rows are to be read
rows_pass_as : (reading : Reading) (rows : List (List (List ℕ))) (N : Table) (e : TableFault) (k : TableFaultKind) (above : Type 0) → ReadsAs reading rows (Ok N)
    → OfRows k above (ReadsAs reading rows (Err e)) → table_status_of k ≡ 3
rows_pass_as reading rows N e kind.ReadFault above read said = refl
rows_pass_as reading rows N e kind.Memory above read said = refl
rows_pass_as reading rows N e _ above read said = let same = one_way_as reading rows (Ok N) (Err e) read said in absurd (cc)

pub requested_passes : RequestsExcludeRefusals
requested_passes request bytes text (fault.Table e) is said =
    let rows = records default_config (strip_bom bytes) in
    rows_pass_as request.reading rows is.0 e e.kind _ ((whole_end request.reading rows is.0).1
    ((tables_are_read request.reading.limits bytes is.0).0 is.1, is.2.0)) said
requested_passes request bytes text fault.Memory is said = refl
requested_passes request bytes text f is said =
    answer_passes request.choice is.0 text f is.2.1
    (subst (λ (N : Table). RefusesTable (question_of request.choice) N f) (one_table request.reading.limits bytes said.0 is.0 said.1 is.1) said.2.1)

-- ---- tables that are cut off

pub cut_tables_are_one : CutTablesAreOne
cut_tables_are_one limits bytes more N M is whole ended = cut_off limits bytes more N M is whole ended

pub no_other_report : CutTablesHaveNoOtherReport
no_other_report request bytes more a b asked x y =
    let same = cut_off request.reading.limits bytes more x.0 y.0 x.1 y.1 (x.2.0 asked) in
    one_answer request.choice y.0 a b y.1.table (subst (λ (N : Table). IsAnswer request.choice N a) same x.2.1) y.2.1
