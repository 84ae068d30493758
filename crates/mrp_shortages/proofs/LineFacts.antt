-- Shortages: the rows of one pair's, term by term.
use Rattle.std.proofs.Common.{◌≡◌, ◌∙◌, ℕ, ◌+◌, ◌-◌, ◌<◌, Bool, true, false, not, ◌==◌, cond, List, [], ◌∷◌, ◌++◌, length, map, drop, get_or, refl, sym, ap, arith, append_assoc}
use Rattle.std.specs.List.{filter, flat_map}
use Rattle.std.proofs.lemmas.Bool.{cond_both, cond-true, cond-false, eqb-true, lt-ltb, le-ltb, true≢false}
use Rattle.std.proofs.lemmas.List.{drop_more}
use Rattle.mrp_netting.specs.PlanRows.{PlanRows}
use Rattle.mrp_master_data.specs.Table.{Table}
use Rattle.mrp_net.specs.Edges.{demanders}
use Rattle.mrp_net.specs.declared.edge.Edge.{Edge}
use Rattle.mrp_plan.specs.Peg.{demand_term, edge_term, is_asked}
use Rattle.mrp_plan.specs.declared.terms.PegTerm.{PegTerm}
use Rattle.mrp_csv_out.specs.Names.{plant_of}
use Rattle.mrp_shortages.specs.declared.shortage.Shortage.{Shortage}
use Rattle.mrp_shortages.specs.declared.shortage_report.ShortageLine.{ShortageLine}
use Rattle.mrp_shortages.specs.Shortages.{is_short, lack_of, lacks_of, there}
use Rattle.mrp_shortages.specs.ShortageLines.{IsShortageLine, lacks_text, line_row, line_text}
use Rattle.mrp_shortages.specs.ShortageRows.{pair_shortages_text, shortage_row}

-- a term has no row where it lacks nothing
pub no_row : (line : ShortageLine) (left : ℕ) (term : PegTerm) → term.quantity - left ≡ 0 → [] ≡ line_text line left term
no_row line left term none = sym (cond-false (is_short (lack_of left term)) (line_row line (lack_of left term)) [] (le-ltb 0 (term.quantity - left) (omega (arith, none))))

-- and else its own
pub its_row : (line : ShortageLine) (left : ℕ) (term : PegTerm) → (term.quantity - left ≡ 0 → ⊥) → line_row line (lack_of left term) ≡ line_text line left term
its_row line left term some =
    let lacks : 0 < term.quantity - left = omega arith in
    sym (cond-true (is_short (lack_of left term)) (line_row line (lack_of left term)) [] (lt-ltb 0 (term.quantity - left) lacks))

kept_text : (f : Shortage → List ℕ) (s : Shortage) (rest : List Shortage) (short : Bool)
    → flat_map f (cond short (s ∷ rest) rest) ≡ cond short (f s) [] ++ flat_map f rest
kept_text f s rest true = refl
kept_text f s rest false = refl

-- the rows of a term and of those behind it
pub next_text : (line : ShortageLine) (left : ℕ) (term : PegTerm) (terms : List PegTerm)
    → lacks_text line left (term ∷ terms) ≡ line_text line left term ++ lacks_text line (left - term.quantity) terms
next_text line left term terms =
    kept_text (line_row line) (lack_of left term) (filter is_short (lacks_of (left - term.quantity) terms)) (is_short (lack_of left term))

not_false : (b : Bool) → not b ≡ false → b ≡ true
not_false true e = refl
not_false false e = absurd (true≢false e)

left_out : (term : PegTerm) → is_asked term ≡ false → term.quantity ≡ 0
left_out term e = eqb-true term.quantity 0 (not_false (term.quantity == 0) e)

-- terms of 0 have no rows and take nothing
asked_text : (line : ShortageLine) (left : ℕ) (terms : List PegTerm) → lacks_text line left (filter is_asked terms) ≡ lacks_text line left terms
asked_text line left [] = refl
asked_text line left (term ∷ terms) =
    cond_both (is_asked term) (term ∷ filter is_asked terms) (filter is_asked terms) (λ l. lacks_text line left l ≡ lacks_text line left (term ∷ terms))
    (λ e. next_text line left term (filter is_asked terms)
    ∙ ap (λ text. line_text line left term ++ text) (asked_text line (left - term.quantity) terms)
    ∙ sym (next_text line left term terms))
    (λ e.
    let none = left_out term e in
    let same : left - term.quantity ≡ left = omega (arith, none) in
    let no : [] ≡ line_text line left term = no_row line left term (omega (arith, none)) in
    asked_text line left terms
    ∙ sym (ap (λ n. lacks_text line n terms) same)
    ∙ ap (λ text. text ++ lacks_text line (left - term.quantity) terms) no
    ∙ sym (next_text line left term terms))

-- the rows of a pair: of its demand rows, and of what its demanders ask
pub pair_text : (N : Table) (table : List PlanRows) (x : ℕ) (line : ShortageLine) → IsShortageLine N table x line
    → line_text line (there N table x) (demand_term N x 0)
    ++ lacks_text line (there N table x - (demand_term N x 0).quantity) (map (edge_term N table 0) (demanders N x))
    ≡ pair_shortages_text N table x
unfolding pair_shortages_text
pair_text N table x line is =
    let terms = demand_term N x 0 ∷ map (edge_term N table 0) (demanders N x) in
    let lacks = filter is_short (lacks_of (there N table x) (filter is_asked terms)) in
    let rows : Table → List ℕ → List ℕ → List ℕ = λ n p i. flat_map (shortage_row n p i) lacks in
    sym (next_text line (there N table x) (demand_term N x 0) (map (edge_term N table 0) (demanders N x)))
    ∙ sym (asked_text line (there N table x) terms)
    ∙ ap (λ (n : Table). rows n line.plant.now line.item.now) is.network
    ∙ ap (λ (p : List ℕ). rows N p line.item.now) is.plant
    ∙ ap (λ (i : List ℕ). rows N (plant_of N x) i) is.item

-- so where the demand rows and the demanders are read, and so many pieces are there
pub pair_parts : (N : Table) (table : List PlanRows) (x : ℕ) (line : ShortageLine) (pieces left : ℕ) (term : PegTerm) (edges : List Edge)
    → IsShortageLine N table x line → pieces ≡ there N table x → term ≡ demand_term N x 0 → left ≡ pieces - term.quantity → edges ≡ demanders N x
    → line_text line pieces term ++ lacks_text line left (map (edge_term line.network.now line.plan.now 0) edges) ≡ pair_shortages_text N table x
pair_parts N table x line pieces left term edges is here first rest are =
    let text : ℕ → PegTerm → ℕ → Table → List PlanRows → List Edge → List ℕ =
    λ p d l n t es. line_text line p d ++ lacks_text line l (map (edge_term n t 0) es) in
    ap (λ (l : ℕ). text pieces term l line.network.now line.plan.now edges) rest
    ∙ ap (λ (p : ℕ). text p term (p - term.quantity) line.network.now line.plan.now edges) here
    ∙ ap (λ (d : PegTerm). text (there N table x) d (there N table x - d.quantity) line.network.now line.plan.now edges) first
    ∙ ap (λ (n : Table). text (there N table x) (demand_term N x 0) (there N table x - (demand_term N x 0).quantity) n line.plan.now edges) is.network
    ∙ ap (λ (t : List PlanRows). text (there N table x) (demand_term N x 0) (there N table x - (demand_term N x 0).quantity) N t edges) is.plan
    ∙ ap (λ (es : List Edge). text (there N table x) (demand_term N x 0) (there N table x - (demand_term N x 0).quantity) N table es) are
    ∙ pair_text N table x line is

-- ---- one edge more

-- what is written, and the rows of the edges from this one on, is the same one edge further
pub edge_next : (line : ShortageLine) (term_of : Edge → PegTerm) (edges : List Edge) (d : Edge) (i left further : ℕ) (term : PegTerm) (whole now after : List ℕ)
    → i < length edges → term ≡ term_of (get_or edges i d) → further ≡ left - term.quantity
    → whole ≡ now ++ lacks_text line left (map term_of (drop i edges)) → after ≡ now ++ line_text line left term
    → whole ≡ after ++ lacks_text line further (map term_of (drop (i + 1) edges))
edge_next line term_of edges d i left further term whole now after within is takes so_far grown =
    let rest = map term_of (drop (i + 1) edges) in
    so_far
    ∙ ap (λ (es : List Edge). now ++ lacks_text line left (map term_of es)) (drop_more edges i d within)
    ∙ ap (λ (p : PegTerm). now ++ lacks_text line left (p ∷ rest)) (sym is)
    ∙ ap (λ (t : List ℕ). now ++ t) (next_text line left term rest)
    ∙ sym (append_assoc now (line_text line left term) (lacks_text line (left - term.quantity) rest))
    ∙ ap (λ (t : List ℕ). t ++ lacks_text line (left - term.quantity) rest) (sym grown)
    ∙ ap (λ (n : ℕ). after ++ lacks_text line n rest) (sym takes)
