use Rattle.std.proofs.Common.{◌≡◌, ℕ, ◌+◌, ◌-◌, ◌≤◌, List, ◌++◌, length, take, Option, Some, None, IfSome, sym, ap, ◌∙◌, subst, arith, le_refl, drop_at, length-take-le, length-take, take_all}
use Rattle.std.proofs.lemmas.Slice.{take-put_mid_below}
use Rattle.std.proofs.lemmas.List.{append-nil}
use Rattle.std.specs.Io.KnownBytes.{Consumes, IsAtEnd}
use Rattle.std.proofs.KnownBytes.{Consumes-trans}
use borrow.Rule.Slice.PartMut.{put_mid, post_of, same_len_mid}
use lib.Seq.{take-add, take-append-le}
use Rattle.bookrun.proofs.slurp.Goals as goal

-- what was read so far, and what one read put behind it
filled : (a k n : ℕ) (xs ys : List ℕ) → a ≤ length xs → n ≤ length ys → take (a + n) (put_mid a k xs ys) ≡ take a xs ++ take n ys
filled a k n xs ys within fits =
    let after = post_of a k xs in
    take-add a n (put_mid a k xs ys)
    ∙ (λ i. take-put_mid_below a k xs ys a (le_refl a) within i ++ take n (drop_at (take a xs) (ys ++ after) a (length-take-le a xs within) i))
    ∙ ap (λ l. take a xs ++ l) (take-append-le n ys after fits)

-- bytes that were taken from known ones are the first of them: as many as fit, or all
first_full : (o q : Option (List ℕ)) (k : ℕ) (ts : List ℕ) → Consumes o q ts → length ts ≡ k → IfSome o (λ bs. ts ≡ take k bs)
first_full None q k ts h l = tt
first_full (Some bs) None k ts h l = absurd h
first_full (Some bs) (Some ys) k ts h l = sym (ap (take k) h ∙ take-append-le k ts ys (omega arith) ∙ take_all k ts (omega arith))

first_ended : (o q : Option (List ℕ)) (k : ℕ) (ts : List ℕ) → Consumes o q ts → IsAtEnd q → length ts ≤ k → IfSome o (λ bs. ts ≡ take k bs)
first_ended None q k ts h e l = tt
first_ended (Some bs) None k ts h e l = absurd h
first_ended (Some bs) (Some ys) k ts h e l =
    sym (ap (take k) (h ∙ ap (λ z. ts ++ z) e ∙ append-nil ts) ∙ take_all k ts l)

pub loop-count-preserved : goal.loop-count-preserved
loop-count-preserved g c =
    let from = c.loop-count.count in
    let page = c.loop-count.page in
    let n = c.in_ok-more.more in
    let part = filled from (65536 - from) n page c.read.new.buf (omega (arith, c.loop-count.invariant.0)) c.in_ok-more.ensures.bound.0 in
    (same_len_mid from (65536 - from) page c.read.new.buf (omega arith) ∙ c.loop-count.invariant.0, omega (arith, c.in_ok-more.ensures.bound.0), subst (Consumes _ _) (sym part) (Consumes-trans _ _ _ _ _ c.loop-count.invariant.2 c.in_ok-more.ensures.bytes.0))

pub returns-then-more-eq0-clause-bytes : goal.returns-then-more-eq0-clause-bytes
returns-then-more-eq0-clause-bytes g c =
    let from = c.loop-count.count in
    let page = c.loop-count.page in
    let none = c.if-more-eq0.true in
    let part =
    take-put_mid_below from (65536 - from) page c.read.new.buf from (le_refl from) (omega (arith, c.loop-count.invariant.0))
    ∙ sym (append-nil (take from page)) ∙ ap (λ k. take from page ++ take k c.read.new.buf) (sym none) in
    first_ended _ _ 65536 _
    (subst (Consumes _ _) (sym part) (Consumes-trans _ _ _ _ _ c.loop-count.invariant.2 c.in_ok-more.ensures.bytes.0))
    (c.in_ok-more.ensures.bytes.1 none (omega arith)) (omega (arith, length-take from (put_mid from (65536 - from) page c.read.new.buf)))

pub returns-clause-bytes : goal.returns-clause-bytes
returns-clause-bytes g c =
    let from = c.loop-count.count in
    let page = c.loop-count.page in
    first_full _ _ 65536 (take from page) c.loop-count.invariant.2 (omega (arith, length-take from page, c.loop-count.invariant.0))
