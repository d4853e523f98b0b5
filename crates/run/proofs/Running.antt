-- A page, record by record.
use Rattle.std.proofs.Common.{◌≡◌, ℕ, zero, suc, ◌+◌, ◌-◌, ◌<◌, ◌≤◌, max, Bool, true, false, cond, leb, ltb, List, [], ◌∷◌, ◌++◌, length, get_or, Some, None, Ok, Err, Option, sym, refl, ap, ◌∙◌, append_assoc, append-nil, ⊎_elim, arith}
use Rattle.std.proofs.lemmas.Bool.{leb-true, lt-ltb, le-ltb, cases_lt}
use Rattle.book.specs.Calls.{State}
use Rattle.run.specs.declared.calls.Kind.{Kind}
use Rattle.run.specs.declared.faults.PageFault.TheVariants.{CutShort}
use Rattle.run.specs.declared.faults.Reply.{Reply}
use Rattle.run.specs.declared.records.Record.{Record}
use Rattle.run.specs.Records.{kind_of, body_size, call_of, part, of_kind, decoded}
use Rattle.run.specs.Runs.{record_at, next_of, records_from, records_within, reply_to, left_by, replies, final, peak}

module _ (page : List ℕ) (at : ℕ) (h : at < length page) where
  -- the next record begins behind the place, and no further than where the page ends
  abbrev Onward : ℕ → Type 0
  Onward n = (at < n) × (n ≤ length page)

  of_kind_onward : (o : Option Kind) → Onward (next_of page (of_kind o page at))
  of_kind_onward None = (h, omega arith)
  of_kind_onward (Some k) = go (leb (at + 1 + body_size k) (length page)) refl
    where
      go : (b : Bool) → leb (at + 1 + body_size k) (length page) ≡ b → Onward (next_of page (cond b (Ok (call_of k (part page at (body_size k)), at + 1 + body_size k)) (Err CutShort)))
      go true e = (omega arith, leb-true _ _ e)
      go false e = (h, omega arith)

  pub onward : Onward (next_of page (decoded page at))
  unfolding decoded
  onward = of_kind_onward (kind_of (get_or page at 0))

  records_more : (k : ℕ) → records_from (suc k) page at ≡ record_at page at ∷ records_from k page (next_of page (decoded page at))
  unfolding records_from
  records_more k = rw (lt-ltb at (length page) h)

records_end : (k : ℕ) (page : List ℕ) (at : ℕ) → length page ≤ at → records_from k page at ≡ []
unfolding records_from
records_end zero page at h = refl
records_end (suc k) page at h = rw (le-ltb at (length page) h)

-- so many bytes have no more records
records_enough : (j k : ℕ) (page : List ℕ) (at : ℕ) → length page ≤ at + j → length page ≤ at + k → records_from j page at ≡ records_from k page at
records_enough zero k page at h i = records_end 0 page at (omega arith) ∙ sym (records_end k page at (omega arith))
records_enough (suc j) zero page at h i = records_end (suc j) page at (omega arith) ∙ sym (records_end 0 page at (omega arith))
records_enough (suc j) (suc k) page at h i =
    ⊎_elim
    (λ (lt : at < length page).
    let next = next_of page (decoded page at) in
    let on = (onward page at lt).0 in
    records_more page at lt j ∙ ap (λ rs. record_at page at ∷ rs) (records_enough j k page next (omega arith) (omega arith)) ∙ sym (records_more page at lt k))
    (λ (le : length page ≤ at). records_end (suc j) page at le ∙ sym (records_end (suc k) page at le))
    (cases_lt at (length page))

pub records_next : (page : List ℕ) (at : ℕ) → at < length page → records_within page at ≡ record_at page at ∷ records_within page (next_of page (decoded page at))
records_next page at h =
    let k = length page - 1 in
    let e : length page ≡ suc k = omega arith in
    let on = (onward page at h).0 in
    ap (λ n. records_from n page at) e ∙ records_more page at h k ∙ ap (λ rs. record_at page at ∷ rs) (records_enough k (length page) page (next_of page (decoded page at)) (omega arith) (omega arith))

pub records_done : (page : List ℕ) (at : ℕ) → length page ≤ at → records_within page at ≡ []
records_done page at h = records_end (length page) page at h

-- what an iterator over the records needs
pub ruleset one_by_one = (records_next, records_done)

-- no more records than bytes
pub records_few : (k : ℕ) (page : List ℕ) (at : ℕ) → length (records_from k page at) ≤ k
unfolding records_from
records_few zero page at = omega arith
records_few (suc k) page at =
    let fewer = records_few k page (next_of page (decoded page at)) in
    elim (ltb at (length page)) as (λ b. length (cond b (record_at page at ∷ records_from k page (next_of page (decoded page at))) []) ≤ suc k)
    [ true ↦ omega (arith, fewer) | false ↦ omega arith ]

-- The replies xs to the first of the records rs₀ brought the book from s₀ to s, and the records rs are left.
pub record Ran (rs₀ : List Record) (s₀ : State) (xs : List Reply) (rs : List Record) (s : State) : Type 0 where
  pub whole : replies rs₀ s₀ ≡ xs ++ replies rs s
  pub last : final rs₀ s₀ ≡ final rs s
  pub most : peak rs s ≤ peak rs₀ s₀

pub ran_none : (rs : List Record) (s : State) → Ran rs s [] rs s
ran_none rs s = record { whole = refl; last = refl; most = omega arith }

-- the lines in use are among the most that there will be
peak_now : (rs : List Record) (s : State) → length s.lines ≤ peak rs s
unfolding peak
peak_now [] s = omega arith
peak_now (r ∷ rs) s = omega arith

module _ {rs₀ rs : List Record} {s₀ s : State} {xs : List Reply} {r : Record} (ran : Ran rs₀ s₀ xs (r ∷ rs) s) where
  pub ran_more : Ran rs₀ s₀ (xs ++ reply_to r s ∷ []) rs (left_by s r.read)
  unfolding replies final peak
  ran_more = record {
    whole = ran.whole ∙ sym (append_assoc xs (reply_to r s ∷ []) (replies rs (left_by s r.read)));
    last = ran.last;
    most = omega (arith, ran.most);
  }

  -- and so are those before and after a record
  pub peak_both : max (length s.lines) (length (left_by s r.read).lines) ≤ peak rs₀ s₀
  unfolding peak
  peak_both = omega (arith, ran.most, peak_now rs (left_by s r.read))

module _ {rs₀ : List Record} {s₀ s : State} {xs : List Reply} (ran : Ran rs₀ s₀ xs [] s) where
  pub ran_replies : xs ≡ replies rs₀ s₀
  unfolding replies
  ran_replies = sym (ran.whole ∙ append-nil xs)

  pub ran_final : s ≡ final rs₀ s₀
  unfolding final
  ran_final = sym ran.last

-- where a run begins, and where it ends
pub ruleset running = (records_few, ran_none, ran_replies, ran_final)
