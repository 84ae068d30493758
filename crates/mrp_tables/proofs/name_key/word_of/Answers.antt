use Rattle.std.proofs.Common.{◌≡◌, ◌≤◌, ◌+◌, ◌-◌, ◌*◌, ℕ, suc, length, drop, get_or, ap, sym, ◌∙◌, arith}
use Rattle.std.proofs.lemmas.List.{drop_all, length-drop}
use Rattle.std.proofs.lemmas.List.Elements.{All-drop}
use Rattle.mrp_tables.specs.Keys.{word_of}
use Rattle.mrp_tables.proofs.Words.{IsByte, all_bytes, word_more, word_room}
use Rattle.mrp_tables.proofs.name_key.word_of.Goals as goal
use Rattle.mrp_tables.proofs.name_key.word_of.Goals.{In-loop-i}

pub loop-i-init : goal.loop-i-init
unfolding word_of
loop-i-init c = sym (ap word_of (drop_all (length c.args.bytes.now) c.args.bytes.now (omega arith)))

-- the word so far has room for one byte more
room : (c : In-loop-i) → c.loop-i.word ≤ 9024825867763968
room c =
    let bytes = c.args.bytes.now in
    let rest = drop c.loop-i.i bytes in
    let few : length rest ≤ 6 = omega (arith, length-drop c.loop-i.i bytes, c.requires.few, c.loop-i-test.true) in
    omega (arith, c.loop-i.invariant, word_room rest (All-drop IsByte c.loop-i.i bytes (all_bytes bytes c.type_inv.bytes)) few)

pub overflow_mul-word : goal.overflow_mul-word
overflow_mul-word c = omega (arith, room c)

pub overflow_add-word : goal.overflow_add-word
overflow_add-word c = omega (arith, room (goal.at.overflow_add-word c).In-loop-i, c.type_inv.bytes (c.loop-i.i - 1))

pub overflow_add-word-in-loop-i : goal.overflow_add-word-in-loop-i
overflow_add-word-in-loop-i c = omega (arith, room (goal.at.overflow_add-word-in-loop-i c).In-loop-i, c.type_inv.bytes (c.loop-i.i - 1))

pub loop-i-preserved : goal.loop-i-preserved
loop-i-preserved c =
    let bytes = c.args.bytes.now in
    let i = c.loop-i.i in
    let next : suc (i - 1) ≡ i = omega (arith, c.loop-i-test.true) in
    let step = word_more bytes (i - 1) 0 (omega (arith, c.loop-i.auto.i, c.loop-i-test.true)) in
    let so_far : c.loop-i.word ≡ word_of (drop (suc (i - 1)) bytes) = c.loop-i.invariant ∙ ap (λ (k : ℕ). word_of (drop k bytes)) (sym next) in
    ap (λ (w : ℕ). w * 512 + get_or bytes (i - 1) 0 + 1) so_far ∙ sym step
