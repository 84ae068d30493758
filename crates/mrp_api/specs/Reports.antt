-- The library: its other reports than the plan's, and which text each text function writes of the table.
use Rattle.std.specs.Prelude.{◌≡◌, ℕ, ◌<◌, ◌⊎◌, Bool, true, false, List, ◌++◌, Option, Some, None, Contains, Result, Err}
use Rattle.std.specs.List.{list_any}
use Rattle.std.specs.Str.{bytes_eq}
use Rattle.std.specs.Io.KnownBytes.{Appends}
use Rattle.mrp_master_data.specs.Table.{Table, horizon}
use Rattle.mrp_net.specs.Names.{IsNamed}
use Rattle.mrp_net.specs.PlanLaws.{OfPlan}
use Rattle.mrp_loops.specs.Codes.{AreCodes}
use Rattle.mrp_loops.specs.Sized.{IsSized}
use Rattle.mrp_commands.specs.declared.choice.Heading.{Heading}
use Rattle.mrp_plan.specs.Peg.{peg_terms}
use Rattle.mrp_csv_out.specs.Headings.{header_row}
use Rattle.mrp_report.specs.Lanes.{lane_text}
use Rattle.mrp_report.specs.Orders.{order_text}
use Rattle.mrp_report.specs.Report.{plan_text}
use Rattle.mrp_report.specs.Codes.{code_text}
use Rattle.mrp_report.specs.Terms.{peg_text}
use Rattle.mrp_report.specs.Pegs.{pegs_text}
use Rattle.mrp_schedules.specs.ScheduleRows.{schedule_text}
use Rattle.mrp_reach.specs.Reach.{AreWhole}
use Rattle.mrp_reach.specs.ReachRows.{reach_text}
use Rattle.mrp_advice.specs.AdviceRows.{advice_text}
use Rattle.mrp_shortages.specs.ShortageRows.{shortage_text}
use Rattle.mrp_world.specs.Figures.{last_figures}
use Rattle.mrp_api.specs.declared.fault.TextFault.{TextFault}
use Rattle.mrp_api.specs.declared.fault.TextFault.TheVariants as fault

-- the plan rows of the network
abbrev pub IsPlanRows : Table → List ℕ → Type 0
IsPlanRows N rows = IsSized N × OfPlan N (λ plans. rows ≡ plan_text N plans)

-- the code rows of the network
abbrev pub IsCodeReport : Table → List ℕ → Type 0
IsCodeReport N text = IsSized N × ((codes : List ℕ) × AreCodes N codes × (text ≡ code_text N codes))

-- the peg rows of a pair in a period of the plan
abbrev pub IsPegs : Table → ℕ → ℕ → List ℕ → Type 0
IsPegs N x period text =
    IsSized N × (period < horizon N) × OfPlan N (λ plans. text ≡ peg_text N (peg_terms N plans x period))

-- those of the pair of these names
abbrev pub IsPegReport : List ℕ → List ℕ → ℕ → Table → List ℕ → Type 0
IsPegReport plant item period N text = (x : ℕ) × IsNamed N x plant item × IsPegs N x period text

-- the lane rows of the cumulative figures with which every run between the plants ends
abbrev pub IsCumReport : Table → List ℕ → Type 0
IsCumReport N text = IsSized N × (text ≡ lane_text N (last_figures N))

-- the order rows of the plan of the network: those of the orders that are released by then, with the names of their
-- columns above them where they are asked for
abbrev pub IsOrderReport : Option ℕ → Heading → Table → List ℕ → Type 0
IsOrderReport until heading N text = IsSized N × OfPlan N (λ plans. text ≡ order_text heading until N plans)

-- the schedule rows of the network, of one supplier and one customer where these are named
abbrev pub AreSchedules : Option (List ℕ) → Option (List ℕ) → Heading → Table → List ℕ → Type 0
AreSchedules from to heading N text = IsSized N × (text ≡ schedule_text heading from to N)

-- a plant has the name, where one is given
abbrev pub IsKnownPlant : Table → Option (List ℕ) → Type 0
IsKnownPlant N None = Unit {0}
IsKnownPlant N (Some name) = Contains N.plants name

-- a vendor has the name
abbrev pub is_vendor : Table → List ℕ → Bool
is_vendor N name = list_any (λ v. bytes_eq name v.name) N.vendors

-- a plant or a vendor has the name, where one is given
abbrev pub IsKnownSupplier : Table → Option (List ℕ) → Type 0
IsKnownSupplier N None = Unit {0}
IsKnownSupplier N (Some name) = Contains N.plants name ⊎ (is_vendor N name ≡ true)

-- so, where supplier and customer are named: the supplier is a plant or a vendor, the customer a plant
abbrev pub IsScheduleReport : Option (List ℕ) → Option (List ℕ) → Heading → Table → List ℕ → Type 0
IsScheduleReport from to heading N text =
    IsKnownSupplier N from × IsKnownPlant N to × AreSchedules from to heading N text

-- the pegs rows of the plan of the network
abbrev pub IsPegsReport : Table → List ℕ → Type 0
IsPegsReport N text = IsSized N × OfPlan N (λ plans. text ≡ pegs_text N plans)

-- the reach rows of the network, with the names of their columns above them where they are asked for
abbrev pub IsReachReport : Heading → Table → List ℕ → Type 0
IsReachReport heading N text = IsSized N × ((wholes : List ℕ) × AreWhole N wholes × (text ≡ reach_text heading N wholes))

-- how far the requirements of each pair are whole, where that is asked
abbrev pub AreWholeIf : Bool → Table → Option (List ℕ) → Type 0
AreWholeIf true N (Some wholes) = AreWhole N wholes
AreWholeIf true N None = ⊥
AreWholeIf false N (Some wholes) = ⊥
AreWholeIf false N None = Unit {0}

-- the advice rows of the plan of the network: those of the open orders that come by then, with `beyond` for messages
-- that the horizon makes where that is asked, and with the names of their columns above them where they are asked for
abbrev pub IsAdviceReport : Option ℕ → Bool → Heading → Table → List ℕ → Type 0
IsAdviceReport until reach heading N text = IsSized N × ((wholes : Option (List ℕ)) × AreWholeIf reach N wholes
    × OfPlan N (λ plans. text ≡ advice_text heading wholes until N plans))

-- the shortage rows of the plan of the network, with the names of their columns above them where they are asked for
abbrev pub IsShortagesReport : Heading → Table → List ℕ → Type 0
IsShortagesReport heading N text = IsSized N × OfPlan N (λ plans. text ≡ shortage_text heading N plans)

-- rows of a report, with the names of its columns above them where they are asked for
abbrev pub IsHeaded : Heading → List (List ℕ) → (List ℕ → Type 0) → List ℕ → Type 0
IsHeaded heading names AreRows text = (rows : List ℕ) × AreRows rows × (text ≡ header_row heading names ++ rows)

-- where memory was refused: nothing was written; or all plan rows were, and no late order
abbrev pub WritesRows : {W U : Type 0} → (W → Option (List ℕ)) → W → W → Result U TextFault → (List ℕ → Type 0) → Type 0
WritesRows contents old new (Err fault.Memory) IsRows =
    (new ≡ old) ⊎ ((rows : List ℕ) × IsRows rows × Appends (contents old) (contents new) rows)
WritesRows contents old new _ IsRows = Unit {0}
