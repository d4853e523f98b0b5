-- From the outcome of a call to what its contract says.
use Rattle.std.proofs.Common.{◌≡◌, ℕ, ◌≤◌, max, Bool, true, length, drop, Result, Ok, Err, sym, refl, ap, ◌∙◌, subst, arith, length-take}
use Rattle.std.proofs.lemmas.Result.{err_from_is_err_and}
use Rattle.std.specs.Result.{IsErrAnd}
use Rattle.book.specs.declared.book.Book.{Book}
use Rattle.book.specs.declared.faults.BookFault.{BookFault}
use Rattle.book.specs.declared.pending.Pending.{Pending}
use Rattle.conditions.specs.Choices.{positions}
use Rattle.book.specs.Numbers.{held}
use Rattle.book.specs.Calls.{State, Effect, accepted}
use Rattle.book.specs.Books.{Possible, state, Called, Performed, Answered}
use Rattle.book.proofs.Using.{used_is}
use Rattle.book.proofs.Grounds.{Clear, Stops, clear, stops, rising, told}

module _ {C : Type 0} (m : C → ℕ → Bool) {A : Type 0} {e : Effect A} {a : Book C} where
  pub refused : {f : BookFault} → rising 0 (e.grounds (state m a)) ≡ true → Stops (e.grounds (state m a)) f → Called m e a a (Err f)
  refused {f} up is = record {
    answers = sym (stops _ f (e.answer (state m a)) is);
    leaves = sym (ap (accepted (state m a)) (stops _ f (e.leaves (state m a)) is));
    told = told 0 _ f up is;
    refused = λ _ _. refl;
    beyond = refl;
    possible = λ h. h;
    lender = refl;
  }

  pub done : {b : Book C} {n : A} → Clear (e.grounds (state m a))
      → n ≡ e.answer (state m a) → state m b ≡ e.leaves (state m a)
      → drop (max a.used b.used) b.lines.now ≡ drop (max a.used b.used) a.lines.now
      → (Possible (state m a) → Possible (e.leaves (state m a)))
      → b.lines.ghost_name ≡ a.lines.ghost_name → Called m e a b (Ok n)
  done {b} is gives leaves beyond possible lender = record {
    answers = ap Ok gives ∙ sym (clear _ (e.answer (state m a)) is);
    leaves = leaves ∙ sym (ap (accepted (state m a)) (clear _ (e.leaves (state m a)) is));
    told = is;
    refused = λ f o. cc;
    beyond = subst (λ k. drop k b.lines.now ≡ drop k a.lines.now) (λ t. max (used_is m a t) (used_is m b t)) beyond;
    possible = λ h. subst Possible (sym leaves) (possible h);
    lender = lender;
  }

-- the same, with what the call means
module _ {C : Type 0} (m : C → ℕ → Bool) {A : Type 0} {e : Effect A} {p : State → State → Type 0} {a : Book C} where
  pub stopped : {f : BookFault} → rising 0 (e.grounds (state m a)) ≡ true → Stops (e.grounds (state m a)) f → Performed m e p a a (Err f)
  stopped up is = record { called = refused m up is; plainly = tt }

  -- a fault that was passed up
  pub stopped_by : (f : BookFault) {r : Result A BookFault} → IsErrAnd r (λ x. x ≡ f) → rising 0 (e.grounds (state m a)) ≡ true → Stops (e.grounds (state m a)) f → Performed m e p a a r
  stopped_by f {r} by up is = let q = err_from_is_err_and r by in rw (q.1, q.2) (stopped up is)

  pub performed : {b : Book C} {n : A} → Clear (e.grounds (state m a))
      → n ≡ e.answer (state m a) → state m b ≡ e.leaves (state m a)
      → drop (max a.used b.used) b.lines.now ≡ drop (max a.used b.used) a.lines.now
      → (Possible (state m a) → Possible (e.leaves (state m a)))
      → b.lines.ghost_name ≡ a.lines.ghost_name
      → p (state m a) (e.leaves (state m a)) → Performed m e p a b (Ok n)
  performed is gives leaves beyond possible lender plainly =
      record { called = done m is gives leaves beyond possible lender; plainly = subst (p (state m a)) (sym leaves) plainly }

-- a call that only reads
module _ {C : Type 0} (m : C → ℕ → Bool) {A : Type 0} {e : Effect A} {b : Book C} where
  pub answered : {n : A} → Clear (e.grounds (state m b)) → n ≡ e.answer (state m b) → Answered m e b (Ok n)
  answered is gives = record { answers = ap Ok gives ∙ sym (clear _ (e.answer (state m b)) is); told = is }

-- no more are pending than there are positions
pub held_few : (p : Pending) → length (held p) ≤ positions
held_few p = omega (arith, length-take p.count p.numbers, p.few)
