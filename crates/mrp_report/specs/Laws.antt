-- Reports of plan, late orders, orders, pegs, codes and figures are read back: what a spreadsheet shows of them is the
-- fields that their rows are made of.
use Rattle.std.specs.Prelude.{ℕ, List, ◌++◌, Option}
use Rattle.mrp_netting.specs.PlanRows.{PlanRows}
use Rattle.mrp_master_data.specs.Table.{IsTable, Table}
use Rattle.mrp_commands.specs.declared.choice.Heading.{Heading}
use Rattle.mrp_plan.specs.declared.terms.PegTerm.{PegTerm}
use Rattle.mrp_book.specs.declared.figure.LaneFigure.{LaneFigure}
use Rattle.mrp_report.specs.Headings.{code_names, lane_names, peg_names, pegs_names}
use Rattle.mrp_csv_out.specs.Headings.{header_row}
use Rattle.mrp_report.specs.Lanes.{lane_text}
use Rattle.mrp_report.specs.Orders.{order_text}
use Rattle.mrp_report.specs.Pegs.{pegs_text}
use Rattle.mrp_report.specs.Report.{late_text, plan_text}
use Rattle.mrp_report.specs.Codes.{code_text}
use Rattle.mrp_report.specs.Terms.{peg_text}
use Rattle.mrp_csv_out.specs.Sheets.{IsReadAs, header_sheet}
use Rattle.mrp_report.specs.Sheets.{code_sheet, lane_sheet, late_sheet, order_sheet, peg_sheet, pegs_sheet, plan_sheet}

abbrev pub PlanIsReadBack : Type 0
PlanIsReadBack = (N : Table) → IsTable N → (table : List PlanRows) → IsReadAs (plan_text N table) (plan_sheet N table)

abbrev pub LateOrdersAreReadBack : Type 0
LateOrdersAreReadBack = (N : Table) → IsTable N → (table : List PlanRows)
    → IsReadAs (late_text N table) (late_sheet N table)

-- the plan and then its late orders, as `mrp plan` writes them
abbrev pub PlanWithLateOrdersIsReadBack : Type 0
PlanWithLateOrdersIsReadBack =
    (N : Table) → IsTable N → (table : List PlanRows)
    → IsReadAs (plan_text N table ++ late_text N table) (plan_sheet N table ++ late_sheet N table)

-- the other reports, with the names of their columns or without
abbrev pub TermsAreReadBack : Type 0
TermsAreReadBack =
    (N : Table) → IsTable N → (heading : Heading) (terms : List PegTerm)
    → IsReadAs (header_row heading peg_names ++ peg_text N terms) (header_sheet heading peg_names ++ peg_sheet N terms)

abbrev pub PegsAreReadBack : Type 0
PegsAreReadBack =
    (N : Table) → IsTable N → (heading : Heading) (table : List PlanRows)
    → IsReadAs (header_row heading pegs_names ++ pegs_text N table)
    (header_sheet heading pegs_names ++ pegs_sheet N table)

abbrev pub CodesAreReadBack : Type 0
CodesAreReadBack =
    (N : Table) → IsTable N → (heading : Heading) (codes : List ℕ)
    → IsReadAs (header_row heading code_names ++ code_text N codes)
    (header_sheet heading code_names ++ code_sheet N codes)

abbrev pub FiguresAreReadBack : Type 0
FiguresAreReadBack =
    (N : Table) → IsTable N → (heading : Heading) (figures : List LaneFigure)
    → IsReadAs (header_row heading lane_names ++ lane_text N figures)
    (header_sheet heading lane_names ++ lane_sheet N figures)

abbrev pub OrdersAreReadBack : Type 0
OrdersAreReadBack =
    (N : Table) → IsTable N → (heading : Heading) (until : Option ℕ) (table : List PlanRows)
    → IsReadAs (order_text heading until N table) (order_sheet heading until N table)
