use Rattle.std.proofs.Common.{◌≡◌, ◌++◌, map, length, drop, max, ◌+◌, sym, refl, ap, ◌∙◌, length-append, arith}
use Rattle.std.specs.List.{flat_map}
use Rattle.std.proofs.lemmas.List.{length-map, map-append}
use Rattle.book.specs.Lines.{seen}
use Rattle.book.specs.Writes.{rewrite, stay_line, extra_line, split_lines}
use Rattle.book.proofs.Splitting.{take_past, drop_past}
use Rattle.book.proofs.book.Book.split_lines.Goals as goal

pub split-requires : goal.split-requires
unfolding split_lines
split-requires g c =
    let m = g.C.Condition.meaning in
    let u = rewrite c.args.update.now in
    let p = c.split_at_mut-lines.ensures in
    let fs = map (seen m) c.split_at_mut-lines.result.0.now in
    let same = ap (λ ls. length (split_lines u (map (seen m) ls))) p.front in
    omega (arith, same, c.requires, length-append (map (stay_line u) fs) (flat_map (extra_line u) fs), length-map fs (stay_line u), length-map c.split_at_mut-lines.result.0.now (seen m), p.front_len, p.back_len)

pub returns : goal.returns
unfolding split_lines
returns g c =
    let m = g.C.Condition.meaning in
    let u = rewrite c.args.update.now in
    let p = c.split_at_mut-lines.ensures in
    let n = c.args.self.now.used in
    let k = c.split.result in
    let s = c.split.ensures in
    let whole = length-append c.split.new.lines c.split.new.room in
    let long : length c.split.new.lines ≡ n = omega arith in
    record {
      lines =
          ap (map (seen m)) (take_past c.split.new.lines c.split.new.room n k long)
          ∙ map-append (seen m) c.split.new.lines _
          ∙ (λ t. s.stay t ++ s.added t)
          ∙ ap (λ ls. split_lines u (map (seen m) ls)) p.front;
      size = omega (arith, whole, p.back_len);
      beyond =
          drop_past c.split.new.lines c.split.new.room n k long ∙ s.beyond ∙ sym (drop_past c.split_at_mut-lines.result.0.now c.split_at_mut-lines.result.1.now n k p.front_len)
          ∙ ap (drop (max n (n + k))) (sym p.value);
      numbers = (refl, refl, refl);
      lender = refl;
    }
