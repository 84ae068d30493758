use Rattle.std.proofs.Common.{◌≡◌, Bool, true, false, if◌then◌else◌, List, [], ◌∷◌, ◌++◌, sym, subst, All}
use Rattle.std.specs.Result.{is_ok}
use Rattle.mrp_netting.specs.PlanRows.{PlanRows}
use Rattle.mrp_crew.specs.Rooms.{IsRoom}
use Rattle.mrp_crew.proofs.Fronts.{All-pushed}
use Rattle.mrp_crew.proofs.rooms.put_back.Goals as goal

-- with the room, or without it where it was let go
with_or_without : (P : PlanRows → Type 0) (put : Bool) (before after : List PlanRows) (room : PlanRows) → after ≡ (if put then before ++ room ∷ [] else before)
    → All P before → P room → All P after
with_or_without P true before after room is all one = All-pushed P before after room is all one
with_or_without P false before after room is all one = subst (All P) (sym is) all

pub returns : goal.returns
returns c = λ horizon all one. with_or_without (IsRoom horizon) (is_ok c.push.result) c.args.rooms.now.items c.push.new.self.items c.args.room
    c.push.ensures.items all one
