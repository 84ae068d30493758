-- A crew's threads: what they were started for, and what the workers bring back.
use Rattle.std.proofs.Common.{◌≡◌, ℕ, ◌+◌, ◌<◌, ◌≤◌, false, List, [], ◌∷◌, ◌++◌, length, reverse, take, get_or, sym, ap, ◌∙◌, All, add-one}
use Rattle.std.proofs.Math.Seq.{take-suc}
use Rattle.std.proofs.lemmas.Bool.{false≢true}
use Rattle.std.proofs.lemmas.List.{append_assoc, append-nil, length-map, length-reverse, map-append, take_all}
use Rattle.std.specs.declared.thread.PromisedHandle.{PromisedHandle}
use Rattle.mrp_master_data.specs.declared.numbers.PairNo.{PairNo}
use Rattle.mrp_agent.specs.State.{AgentState}
use Rattle.mrp_crew.specs.declared.work.Drafts.{Drafts}
use Rattle.mrp_crew.specs.declared.work.Order.{Order}
use Rattle.mrp_crew.specs.declared.work.Work.{Work}
use Rattle.mrp_crew.specs.Rooms.{AreDrafts, IsRoom, WorkedFor, pairs_worked}
use Rattle.mrp_crew.specs.Started.{ordered}
use Rattle.mrp_crew.proofs.Fronts.{reverse-push}

abbrev Worker : Type 0 → Type 0
Worker G = PromisedHandle Work (Order G)

-- one more thread
ordered-push : {G : Type 0} (workers more : List (Worker G)) (h : Worker G) → more ≡ workers ++ h ∷ [] → ordered more ≡ ordered workers ++ h.promise.pair ∷ []
ordered-push {G} workers more h is = ap ordered is ∙ map-append (λ (w : Worker G). w.promise.pair) workers (h ∷ [])

pub started_next : {G : Type 0} (pairs : List PairNo) (i : ℕ) (d : PairNo) (workers more : List (Worker G)) (h : Worker G) → i < length pairs
    → take i pairs ≡ ordered workers
    → more ≡ workers ++ h ∷ [] → h.promise.pair ≡ get_or pairs i d → take (i + 1) pairs ≡ ordered more
started_next pairs i d workers more h within so_far pushed its =
    ap (λ (n : ℕ). take n pairs) (add-one i) ∙ take-suc pairs i d within ∙ ap (λ (z : List PairNo). z ++ get_or pairs i d ∷ []) so_far
    ∙ ap (λ (x : PairNo). ordered workers ++ x ∷ []) (sym its) ∙ sym (ordered-push workers more h pushed)

-- no pair is left to start one for
pub started_all : {G : Type 0} (pairs : List PairNo) (i : ℕ) (workers : List (Worker G)) → length pairs ≤ i → take i pairs ≡ ordered workers
    → pairs ≡ ordered workers ++ []
started_all pairs i workers none so_far = sym (take_all i pairs none) ∙ so_far ∙ sym (append-nil (ordered workers))

-- one is joined
pub joined_pairs : {G : Type 0} (workers rest : List (Worker G)) (h : Worker G) (works more : List Work) (w : Work) (pairs : List PairNo)
    → workers ≡ rest ++ h ∷ [] → more ≡ works ++ w ∷ []
    → w.pair ≡ h.promise.pair → ordered workers ++ pairs_worked (reverse works) ≡ pairs → ordered rest ++ pairs_worked (reverse more) ≡ pairs
joined_pairs workers rest h works more w pairs popped pushed its so_far =
    ap (λ (z : List Work). ordered rest ++ pairs_worked z) (ap (λ (z : List Work). reverse z) pushed ∙ reverse-push works w)
    ∙ ap (λ (x : PairNo). ordered rest ++ x ∷ pairs_worked (reverse works)) its
    ∙ sym (append_assoc (ordered rest) (h.promise.pair ∷ []) (pairs_worked (reverse works)))
    ∙ ap (λ (z : List PairNo). z ++ pairs_worked (reverse works)) (sym (ordered-push rest workers h popped))
    ∙ so_far

-- the only result so far
pub only_pair : (before works : List Work) (w : Work) (own : PairNo) → before ≡ [] → works ≡ before ++ w ∷ [] → w.pair ≡ own
    → pairs_worked (reverse works) ≡ own ∷ []
only_pair before works w own none pushed its =
    ap (λ (z : List Work). pairs_worked (reverse z)) (pushed ∙ ap (λ (z : List Work). z ++ w ∷ []) none) ∙ ap (λ (x : PairNo). x ∷ []) its

-- a thread was refused
pub refused_drafts : {G : Type 0} (A : AgentState) (others : List PairNo) (own : PairNo) (workers : List (Worker G)) (rest : List PairNo) (drafts : Drafts)
    → drafts.all ≡ false
    → others ≡ ordered workers ++ rest → pairs_worked (reverse drafts.works.items) ≡ ordered workers ++ [] → All (WorkedFor A) drafts.works.items
    → All (IsRoom A.view.horizon) drafts.rooms.items → AreDrafts A (others ++ own ∷ []) drafts
refused_drafts A others own workers rest drafts refused started pairs worked rooms = record {
  left_out = rest ++ own ∷ [];
  front = ap (λ (z : List PairNo). z ++ own ∷ []) started ∙ append_assoc (ordered workers) rest (own ∷ [])
      ∙ ap (λ (z : List PairNo). z ++ (rest ++ own ∷ [])) (sym (pairs ∙ append-nil (ordered workers)));
  all = λ t. absurd (false≢true (sym refused ∙ t));
  worked = worked;
  rooms = rooms;
}

-- all threads were started
pub whole_drafts : {G : Type 0} (A : AgentState) (others : List PairNo) (own : PairNo) (workers : List (Worker G)) (rest : List PairNo) (drafts : Drafts)
    → rest ≡ []
    → others ≡ ordered workers ++ rest → pairs_worked (reverse drafts.works.items) ≡ ordered workers ++ own ∷ [] → All (WorkedFor A) drafts.works.items
    → All (IsRoom A.view.horizon) drafts.rooms.items → AreDrafts A (others ++ own ∷ []) drafts
whole_drafts A others own workers rest drafts none started pairs worked rooms =
    let whole : others ++ own ∷ [] ≡ pairs_worked (reverse drafts.works.items) =
    ap (λ (z : List PairNo). z ++ own ∷ []) (started ∙ ap (λ (z : List PairNo). ordered workers ++ z) none ∙ append-nil (ordered workers)) ∙ sym pairs in
    record {
      left_out = [];
      front = whole ∙ sym (append-nil (pairs_worked (reverse drafts.works.items)));
      all = λ t. sym (length-reverse drafts.works.items) ∙ sym (length-map (reverse drafts.works.items) (λ (w : Work). w.pair)) ∙ ap length (sym whole);
      worked = worked;
      rooms = rooms;
    }
