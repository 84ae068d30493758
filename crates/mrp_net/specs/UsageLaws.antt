-- The network: laws of usage rows on its edges. Which of them is in force, what it asks, and the most that any asks.
use Rattle.std.specs.Prelude.{◌≡◌, ℕ, ◌+◌, ◌*◌, ◌<◌, ◌≤◌, ◌==◌, ◌&&◌, if◌then◌else◌, Bool, List, [], filter, All, Contains}
use Rattle.mrp_netting.specs.PlanRows.{PlanRows}
use Rattle.mrp_master_data.specs.declared.rows.BillRow.{BillRow}
use Rattle.mrp_master_data.specs.declared.rows.UsageRow.{UsageRow}
use Rattle.mrp_master_data.specs.Table.{Table, IsTable}
use Rattle.mrp_net.specs.declared.edge.Edge.{Edge}
use Rattle.mrp_net.specs.Edges.{edge_most, edge_need, edge_usage, part, source_edge}
use Rattle.mrp_net.specs.Plan.{release_at}
use Rattle.mrp_net.specs.PlanLaws.{asked_by_bill}
use Rattle.mrp_net.specs.Suppliers.{IsEdge}
use Rattle.mrp_net.specs.Usages.{whole}

-- the usage rows of an edge, in table order
abbrev pub is_usage_of : Edge → UsageRow → Bool
is_usage_of e u = (u.parent.0 == e.demander.0) && (u.component.0 == e.pair.0)

abbrev pub usage_rows : Table → Edge → List UsageRow
usage_rows N e = filter (is_usage_of e) N.usages

-- a row of the edge that begins by a period, and no other row of it begins later by then
pub record IsLastBy (N : Table) (e : Edge) (t : ℕ) (u : UsageRow) : Type 0 where
  pub row : Contains (usage_rows N e) u
  pub begun : u.period ≤ t
  pub last : All (λ v. v.period ≤ t → v.period ≤ u.period) (usage_rows N e)

-- that row is in force
abbrev pub LastRowsAreInForce : Type 0
LastRowsAreInForce =
    (N : Table) → IsTable N → (e : Edge) (t : ℕ) (u : UsageRow) → IsLastBy N e t u → edge_usage N e t ≡ u.usage

-- and before the first row of the edge begins the bill row is
abbrev pub BillsAreInForceBefore : Type 0
BillsAreInForceBefore =
    (N : Table) → IsTable N → (e : Edge) (t : ℕ) → All (λ u. t < u.period) (usage_rows N e)
    → edge_usage N e t ≡ whole e.per

-- the pieces that are asked are the fewest that are enough: each BASE of the parents need PER pieces
pub record IsRoundedUp (per base parents pieces : ℕ) : Type 0 where
  pub enough : per * parents ≤ base * pieces
  pub no_more : base * pieces < per * parents + base

abbrev pub NeedsAreRoundedUp : Type 0
NeedsAreRoundedUp =
    (N : Table) → IsTable N → (e : Edge) (t release : ℕ)
    → IsRoundedUp (edge_usage N e t).per (edge_usage N e t).base (part e release) (edge_need N e t release)

-- of whole numbers they are a product
abbrev pub WholeNeedsAreProducts : Type 0
WholeNeedsAreProducts =
    (N : Table) (e : Edge) (t release : ℕ) → (edge_usage N e t).base ≡ 1
    → edge_need N e t release ≡ (edge_usage N e t).per * part e release

-- and where none goes into a parent none is asked
abbrev pub NoneAskForNone : Type 0
NoneAskForNone =
    (N : Table) → IsTable N → (e : Edge) (t release : ℕ) → (edge_usage N e t).per ≡ 0 → edge_need N e t release ≡ 0

-- an edge without usage rows asks by its own factor, which is that of its bill row, in every period
abbrev pub NeedsWithoutUsages : Type 0
NeedsWithoutUsages =
    (N : Table) → IsTable N → (e : Edge) (t release : ℕ) → usage_rows N e ≡ []
    → edge_need N e t release ≡ e.per * part e release

-- and a source has none: it asks its share, one for one
abbrev pub SourcesHaveNoUsages : Type 0
SourcesHaveNoUsages = (N : Table) → IsTable N → All (λ s. usage_rows N (source_edge N s) ≡ []) N.sources

abbrev pub SourcesAskTheirShares : Type 0
SourcesAskTheirShares =
    (N : Table) → IsTable N
    → All (λ s. (t release : ℕ) → edge_need N (source_edge N s) t release ≡ part (source_edge N s) release) N.sources

-- the most pieces for one parent: no fewer than the bill row says, enough for one parent by each usage row of the edge,
-- in force or not, and the least number that is both
pub record IsMostFor (N : Table) (e : Edge) (most : ℕ) : Type 0 where
  pub bill : e.per ≤ most
  pub rows : All (λ u. u.usage.per ≤ u.usage.base * most) (usage_rows N e)
  pub least : (n : ℕ) → e.per ≤ n → All (λ u. u.usage.per ≤ u.usage.base * n) (usage_rows N e) → most ≤ n

abbrev pub MostsAreTheLeast : Type 0
MostsAreTheLeast = (N : Table) → IsTable N → (e : Edge) → IsMostFor N e (edge_most N e)

-- in no period a release asks more than the most for each of its pieces
abbrev pub MostsCoverNeeds : Type 0
MostsCoverNeeds =
    (N : Table) → IsTable N → (e : Edge) → IsEdge N e → (t release : ℕ) → edge_need N e t release ≤ edge_most N e * release

-- in a table without usage rows a component row asks its PER pieces for each parent that is released, in every period
abbrev pub BillsAskByThePiece : Type 0
BillsAskByThePiece =
    (N : Table) → N.usages ≡ [] → (table : List PlanRows) (x t : ℕ) (b : BillRow)
    → asked_by_bill N table x t b ≡ (if b.component.0 == x then b.per * release_at table b.parent.0 t else 0)

-- and an edge its factor for each piece of its part of the release
abbrev pub EdgesAskByThePiece : Type 0
EdgesAskByThePiece =
    (N : Table) → N.usages ≡ [] → (e : Edge) (t release : ℕ) → edge_need N e t release ≡ e.per * part e release
