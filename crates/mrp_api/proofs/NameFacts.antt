-- The library: the names of pairs, one after the other, for the faults of a text function.
use Rattle.std.proofs.Common.{ℕ, ◌+◌, ◌<◌, List, [], ◌∷◌, ◌++◌, length, map, take, get_or, subst, sym}
use Rattle.std.proofs.lemmas.List.{map_more}
use Rattle.mrp_master_data.specs.declared.numbers.PairNo.{PairNo}
use Rattle.mrp_master_data.specs.Table.{Table}
use Rattle.mrp_api.specs.declared.fault.PairName.{PairName}
use Rattle.mrp_api.specs.Refusals.{AreCalled, IsPairName}

-- one more name
pub called-more : (N : Table) (xs : List ℕ) (names : List PairName) (x : ℕ) (name : PairName) → AreCalled N xs names → IsPairName N x name
    → AreCalled N (xs ++ x ∷ []) (names ++ name ∷ [])
called-more N [] [] x name so_far here = (here, tt)
called-more N [] (n ∷ names) x name so_far here = absurd so_far
called-more N (y ∷ ys) [] x name so_far here = absurd so_far
called-more N (y ∷ ys) (n ∷ names) x name so_far here = (so_far.0, called-more N ys names x name so_far.1 here)

-- the next pair of a list
pub called-next : (N : Table) (pairs : List PairNo) (d : PairNo) (i : ℕ) (names : List PairName) (name : PairName) → i < length pairs
    → AreCalled N (map (λ x. x.0) (take i pairs)) names → IsPairName N (get_or pairs i d).0 name
    → AreCalled N (map (λ x. x.0) (take (i + 1) pairs)) (names ++ name ∷ [])
called-next N pairs d i names name lt so_far here =
    let P : List ℕ → Type 0 = λ xs. AreCalled N xs (names ++ name ∷ []) in
    subst P (sym (map_more (λ (x : PairNo). x.0) pairs i d lt)) (called-more N _ names _ name so_far here)
