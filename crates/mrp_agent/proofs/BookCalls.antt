-- The agent: what its method of booking knows.
use Rattle.std.proofs.Common.{◌≡◌, ℕ, ◌<◌, Bool, Some, IfSome, List, [], ◌∷◌, ◌++◌, length, get_or, set, sym, ap, ◌∙◌, subst, arith}
use Rattle.std.proofs.lemmas.List.{get_or_default, get_or_read}
use Rattle.mrp_master_data.specs.declared.numbers.ItemNo.{ItemNo}
use Rattle.mrp_net.specs.declared.lane.LaneKind.{LaneKind}
use Rattle.mrp_plant_view.specs.declared.view.IncomingLane.{IncomingLane}
use Rattle.mrp_plant_view.specs.View.{PlantRows}
use Rattle.mrp_record.specs.declared.record.Record.{Record}
use Rattle.mrp_record.specs.Form.{LaneForm, IsInForm}
use Rattle.mrp_book.specs.declared.fault.BookFault.{BookFault}
use Rattle.mrp_book.specs.Faults.{first_fault}
use Rattle.mrp_book.specs.Figures as book
use Rattle.mrp_book.specs.Figures.{Figures, figures}
use Rattle.mrp_readiness.specs.Progress.{Progress}
use Rattle.mrp_agent.specs.State.{AgentState, book_at, incoming_at, no_book, no_incoming}
use Rattle.mrp_agent.specs.After.{after_booked, receipts_after, demand_after, ended_place, items_of, BlockEnded, IsAwaited}
use Rattle.mrp_agent.specs.Kept.{Indexes, IsKept}
use Rattle.mrp_agent.specs.Shows.{form_of, BooksShow, ShowsHistory}
use Rattle.mrp_agent.specs.Sent.{IsRefused, with_taken}
use Rattle.mrp_agent.proofs.Booked.{booked_kept, booked_shows, ends_awaited}

-- the lane of a record has a place, and the book was read there
pub record IsOnLane (A : AgentState) (I : Indexes) (k : ℕ) (was : Figures) : Type 0 where
  pub kept : IsKept A I
  pub within : k < length A.view.incoming
  pub read : was ≡ get_or A.books k was

-- what was added up by the lane that was read, and which pairs wait
pub record HasAdded (A : AgentState) (I : Indexes) (k : ℕ) (r : Record) (lanes : List IncomingLane) (lane : IncomingLane) (receipts demand : List ℕ)
    (progress : Progress) : Type 0 where
  pub lanes_are : lanes ≡ A.view.incoming
  pub comes : receipts ≡ receipts_after (get_or lanes k lane).kind A.view A.scheduled_receipts r
  pub calls : demand ≡ demand_after (get_or lanes k lane).kind A.view A.outside_demand r
  pub ended : BlockEnded (ended_place I.items r) A.progress progress

module _ {A : AgentState} {I : Indexes} {k : ℕ} {was : Figures} (on : IsOnLane A I k was) (r : Record) where
  abbrev Lane : IncomingLane
  Lane = incoming_at A.view k

  was_is : was ≡ book_at A k
  was_is = get_or_read A.books k was (omega (arith, on.within, on.kept.rooms.books)) on.read no_book

  -- the kind of the lane that was read
  kind_is : (lanes : List IncomingLane) (lane : IncomingLane) → lanes ≡ A.view.incoming → (get_or lanes k lane).kind ≡ Lane.kind
  kind_is lanes lane e =
      ap (λ (z : List IncomingLane). (get_or z k lane).kind) e
      ∙ ap (λ (z : IncomingLane). z.kind) (get_or_default A.view.incoming k lane no_incoming on.within)

  -- a refused record goes on with no list that is shown
  pub refused_is : (fault : BookFault)
      → ((F : LaneForm) (records : List Record) → book.BookShows F was records
      → (first_fault (figures F records) r ≡ Some fault) × (IsInForm F (records ++ r ∷ []) → ⊥))
      → (taken : ℕ → List Record) → BooksShow A taken → IsRefused A.view k (taken Lane.number.0) r fault
  refused_is fault refused taken shows =
      refused (form_of A.view Lane) (taken Lane.number.0)
      (subst (λ (z : Figures). book.BookShows (form_of A.view Lane) z (taken Lane.number.0)) (sym was_is) (shows k on.within))

  module _ {now : Figures} (booked : (F : LaneForm) (records : List Record) → book.BookShows F was records → book.BookShows F now (records ++ r ∷ [])) where
    on_lane : (records : List Record) → book.BookShows (form_of A.view Lane) (book_at A k) records
        → book.BookShows (form_of A.view Lane) now (records ++ r ∷ [])
    on_lane records shows = booked (form_of A.view Lane) records (subst (λ (z : Figures). book.BookShows (form_of A.view Lane) z records) (sym was_is) shows)

    pub ends : IfSome (ended_place I.items r) (IsAwaited A.progress)
    ends =
        subst (λ (items : List ItemNo). IfSome (ended_place items r) (IsAwaited A.progress)) (sym on.kept.indexes.items)
        (ends_awaited A on.kept.view on.kept.rooms k on.within r now A.progress on_lane on.kept.taken.taken on.kept.taken.books on.kept.taken.waits)

    module _ {lanes : List IncomingLane} {lane : IncomingLane} {receipts demand : List ℕ} {progress : Progress}
        (added : HasAdded A I k r lanes lane receipts demand progress) where
      abbrev New : AgentState
      New = record A { books = set A.books k now; scheduled_receipts = receipts; outside_demand = demand; progress = progress }

      new_is : New ≡ after_booked A k r now progress
      new_is =
          ap (λ (z : List ℕ). record A { books = set A.books k now; scheduled_receipts = z; outside_demand = demand; progress = progress })
          (added.comes ∙ ap (λ (z : LaneKind). receipts_after z A.view A.scheduled_receipts r) (kind_is lanes lane added.lanes_are))
          ∙ ap (λ (z : List ℕ). record A {
            books = set A.books k now;
            scheduled_receipts = receipts_after Lane.kind A.view A.scheduled_receipts r;
            outside_demand = z;
            progress = progress;
          })
          (added.calls ∙ ap (λ (z : LaneKind). demand_after z A.view A.outside_demand r) (kind_is lanes lane added.lanes_are))

      ended_is : BlockEnded (ended_place (items_of A.view) r) A.progress progress
      ended_is = subst (λ (items : List ItemNo). BlockEnded (ended_place items r) A.progress progress) on.kept.indexes.items added.ended

      pub kept_now : IsKept New I
      kept_now = subst (λ (z : AgentState). IsKept z I) (sym new_is)
          (booked_kept A on.kept.view on.kept.rooms k on.within r now progress on_lane I on.kept ended_is)

      pub shows_now : (V : PlantRows) → A.view ≡ V → (sent taken : ℕ → List Record) (planned : ℕ → Bool) → ShowsHistory A sent taken planned
          → ShowsHistory New sent (with_taken V taken k r) planned
      shows_now V seen sent taken planned shows =
          subst (λ (W : PlantRows). ShowsHistory New sent (with_taken W taken k r) planned) seen
          (subst (λ (z : AgentState). ShowsHistory z sent (with_taken A.view taken k r) planned) (sym new_is)
          (booked_shows A on.kept.view on.kept.rooms k on.within r now progress on_lane ended_is sent taken planned shows))
