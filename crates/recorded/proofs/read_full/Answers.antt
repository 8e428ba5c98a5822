-- `recorded::read_full`: what a read gives is put after what stands there, and is what the input then has less.
use Rattle.std.proofs.Common.{◌≡◌, ℕ, ◌+◌, ◌≤◌, List, ◌++◌, rules, length, take, sym, ap, ◌∙◌, subst, length-take-le}
use Rattle.std.proofs.Math.Seq.{take-append-add}
use Rattle.std.proofs.lemmas.List.{take-append-le}
use Rattle.std.specs.Io.KnownBytes.{Consumes}
use Rattle.std.proofs.KnownBytes.{Consumes-trans}
use borrow.Rule.Slice.PartMut.{put_mid, post_of}
use Rattle.recorded.proofs.read_full.Goals as goal

-- the front, which stays, and the start of the part after it
take-put_mid_more :
    (a k n : ℕ) (xs ys : List ℕ) → a ≤ length xs → n ≤ length ys → take (a + n) (put_mid a k xs ys) ≡ take a xs ++ take n ys
take-put_mid_more a k n xs ys within fits =
    let whole = put_mid a k xs ys in
    ap (λ m. take (m + n) whole) (sym (length-take-le a xs within))
    ∙ take-append-add (take a xs) (ys ++ post_of a k xs) n
    ∙ ap (λ l. take a xs ++ l) (take-append-le n ys (post_of a k xs) fits)

pub loop-done-preserved : goal.loop-done-preserved
loop-done-preserved g c =
    let within = c.loop-done.invariant.0 in
    let filled = take-put_mid_more c.loop-done.done _ c.in_ok-count.count c.loop-done.text c.read.new.buf within c.in_ok-count.ensures.bound.0 in
    (search rules, subst (Consumes _ _) (sym filled) (Consumes-trans _ _ _ _ _ c.loop-done.invariant.1 c.in_ok-count.ensures.bytes.0))
