-- Exactly the refusals that the paper demands are given: a search finds the least number that passes, and each choice of the verdict falls to a
-- refusal or to what comes after it.
-- Assumes nothing.
use mathlib.Core.Path.{◌≡◌, refl, sym, ap, ◌∙◌}
use mathlib.Core.Bool.{Bool, true, false, cond, true≢false, false≢true}
use mathlib.Core.List.{List, [], ◌∷◌}
use mathlib.Core.Logic.{◌↔◌, ◌⊎◌, inl, inr, ⊎_elim, ⊎_map}
use Prim.Native.Nat.{ℕ, ◌+◌, ◌<◌, ◌≤◌}
use native.Mathlib.Omega.{arith}
use Rattle.record.specs.Numbers.{any_below, least_below, one_of}
use Rattle.ranges.specs.Ranges.{RecordFinding, wrong_byte, range_fault, is_fault}
use Rattle.ranges.specs.declared.Fault.{Fault}
use Rattle.ranges.proofs.Lowest.{range_right, range_none, range_lowest, after_kind}
use Rattle.record.proofs.Searches.{Least, least_below_lem, least}
use Rattle.record.proofs.Tests.{any_clear, meanings}
use Rattle.layout.specs.Counts.{counts_before}
use Rattle.layout.specs.Verdict.{
  size_fault,
  order_fault,
  ref_fault,
  group_fault,
  place_fault,
  fails,
  byte_or,
  refusal_of,
  no_field,
  complete,
  fails_at,
  refusal_at,
  judged,
  Verdict,
  refused_at,
  verdict,
}
use Rattle.layout.specs.Refusals.{Passes, Fails, records, totals, AllPass, Lacking, Demanded}
use Rattle.layout.specs.declared.Counts.{Counts}
use Rattle.layout.specs.declared.Refusal.{Refusal}
use Rattle.layout.specs.declared.Refused.{Refused}
use Rattle.ranges.specs.declared.RangeFault.{RangeFault}
use Rattle.std.specs.Prelude.{Ok, Err}
use Rattle.layout.proofs.Sorted.{parted}
use Rattle.layout.proofs.Faults.{order_clear}

-- ---- the tests of a record

pub passes : (s : List ℕ) (i : ℕ) → (fails_at s i ≡ false) ↔ Passes s i (counts_before s i)
unfolding fails_at fails
passes s i = simp (meanings, range_right) (λ h. search, λ w. search)

decides : (s : List ℕ) (i : ℕ) (c : Counts) (n : Refusal) → ((fails s i c ≡ true) × (n ≡ refusal_of s i c)) ↔ Fails s i c n
unfolding fails refusal_of
decides s i c n = (λ (fault, e). first _ _ _ _ _ refl refl refl refl refl fault e, given)
  where
    first :
        (o : Bool) (r : RecordFinding) (f g p : Bool)
        → order_fault s i c ≡ o → range_fault s i ≡ r → ref_fault s i c ≡ f → group_fault s i c ≡ g → place_fault s i c ≡ p
        → one_of (o ∷ is_fault r ∷ f ∷ g ∷ p ∷ []) ≡ true
        → n ≡ cond o Refusal.Order (byte_or r (cond f Refusal.Ref (cond g Refusal.Group Refusal.Place)))
        → Fails s i c n
    first true r f g p order range ref group place fault e = Fails.order order e
    first false (Err wrong) f g p order range ref group place fault e = Fails.byte order wrong.fault wrong.byte ((range_lowest s i wrong.fault wrong.byte).0 range) e
    first false (Ok u) true g p order range ref group place fault e = Fails.ref order ((range_none s i).0 range) ref e
    first false (Ok u) false true p order range ref group place fault e = Fails.group order ((range_none s i).0 range) ref group e
    first false (Ok u) false false true order range ref group place fault e = Fails.place order ((range_none s i).0 range) ref group place e
    first false (Ok u) false false false order range ref group place fault e = absurd (false≢true fault)

    given : Fails s i c n → (fails s i c ≡ true) × (n ≡ refusal_of s i c)
    given (Fails.order o e) = (rw o, rw o e)
    given (Fails.byte o way k w e) = let r = (range_lowest s i way k).1 w in (rw (o, r), rw (o, r) e)
    given (Fails.ref o all f e) = let r = (range_none s i).1 all in (rw (o, r, f), rw (o, r, f) e)
    given (Fails.group o all f g e) = let r = (range_none s i).1 all in (rw (o, r, f, g), rw (o, r, f, g) e)
    given (Fails.place o all f g p e) = let r = (range_none s i).1 all in (rw (o, r, f, g, p), rw (o, r, f, g) e)

-- ---- the verdict

-- a choice between a refusal and another verdict
chosen :
    (b : Bool) (k : Refusal) (i : ℕ) (v : Verdict) (n : Refusal) (r : ℕ)
    → (cond b (Err (refused_at k i)) v ≡ Err (refused_at n r)) ↔ (((b ≡ true) × (n ≡ k) × (r ≡ i)) ⊎ ((b ≡ false) × (v ≡ Err (refused_at n r))))
chosen true k i v n r = (λ e. inl (refl, sym (ap (λ (w : Refused). w.refusal) (same e)), sym (ap (λ (w : Refused). w.«record») (same e))), given)
  where
    same : ◌≡◌ {A = Verdict} (Err (refused_at k i)) (Err (refused_at n r)) → refused_at k i ≡ refused_at n r
    same e = cc

    given :
        (((true ≡ true) × (n ≡ k) × (r ≡ i)) ⊎ ((true ≡ false) × (v ≡ Err (refused_at n r))))
        → ◌≡◌ {A = Verdict} (Err (refused_at k i)) (Err (refused_at n r))
    given = ⊎_elim (λ h. rw (h.1, h.2) refl) (λ h. absurd (true≢false h.0))
chosen false k i v n r = (λ e. inr (refl, e), ⊎_elim (λ h. absurd (false≢true h.0)) (λ h. h.1))

lacking : (s : List ℕ) (m : ℕ) → Least (no_field s (records s)) (totals s).messages m ↔ Lacking s m
unfolding no_field
lacking s m = (
  λ w. record { message = w.below; no_field_lem = simp meanings at w.holds; lowest = λ k l. omega (arith, simp meanings at (w.none_before k l)) },
  λ w. record { below = w.message; holds = simp meanings w.no_field_lem; none_before = λ k l. simp meanings (omega (arith, w.lowest k l)) },
)

module _ (s : List ℕ) (n : Refusal) (r : ℕ) where
  -- r is the first record that fails, and n its first test that does
  at_record :
      (i : ℕ) → i ≡ least_below (fails_at s) (records s)
      → ((any_below (fails_at s) (records s) ≡ true) × (n ≡ refusal_of s i (counts_before s i)) × (r ≡ i))
      ↔ ((r < records s) × AllPass s r × Fails s r (counts_before s r) n)
  unfolding fails_at
  at_record i least-is =
      let found = least (fails_at s) (records s) r in
      let decided = decides s r (counts_before s r) n in (
        λ (any, number, same).
            let w = found.0 (any, same ∙ least-is) in
            (w.below, simp passes at w.none_before, decided.0 (w.holds, rw (← same) at number)),
        λ (below, before, fault).
            let (holds, number) = decided.1 fault in
            let (any, same) = found.1 (record { below = below; holds = holds; none_before = simp passes before }) in
            let e : r ≡ i = same ∙ sym least-is in
            (any, rw e at number, e),
      )

  by_size :
      (verdict s ≡ Err (refused_at n r))
      ↔ (((size_fault s ≡ true) × (n ≡ Refusal.Size) × (r ≡ 0)) ⊎ ((size_fault s ≡ false) × (judged s (records s) ≡ Err (refused_at n r))))
  unfolding verdict
  by_size = chosen (size_fault s) Refusal.Size 0 (judged s (records s)) n r

  by_test :
      (judged s (records s) ≡ Err (refused_at n r))
      ↔ (((r < records s) × AllPass s r × Fails s r (counts_before s r) n)
      ⊎ (AllPass s (records s) × (complete s (records s) (totals s) ≡ Err (refused_at n r))))
  unfolding judged refusal_at
  by_test =
      let i = least_below (fails_at s) (records s) in
      let number = refusal_of s i (counts_before s i) in
      let choice = chosen (any_below (fails_at s) (records s)) number i (complete s (records s) (totals s)) n r in (
        λ e. ⊎_map (at_record i refl).0 (λ h. simp (any_clear, passes) at h) (choice.0 e),
        λ h. choice.1 (⊎_map (at_record i refl).1 (λ h. simp (any_clear, passes) h) h),
      )

  by_field :
      (complete s (records s) (totals s) ≡ Err (refused_at n r)) ↔ ((m : ℕ) × Lacking s m × (n ≡ Refusal.NoField) × (r ≡ (totals s).frames + m))
  unfolding complete
  by_field =
      let bare = no_field s (records s) in
      let M = (totals s).messages in
      let m = least_below bare M in
      let accepted = Ok (totals s) in
      let choice = chosen (any_below bare M) Refusal.NoField ((totals s).frames + m) accepted n r in (
        λ e.
            ⊎_elim (λ (any, a, b). (m, (lacking s m).0 (least_below_lem bare M any), a, b))
            (λ (clear, e). absurd (let z : ◌≡◌ {A = ℕ} 0 1 = cc in omega arith))
            (choice.0 e),
        λ (k, w, a, b). let (any, same) = (least bare M k).1 ((lacking s k).1 w) in choice.1 (inl (any, a, rw same at b)),
      )

pub refused : (s : List ℕ) (n : Refusal) (r : ℕ) → (verdict s ≡ Err (refused_at n r)) ↔ Demanded s n r
refused s n r = (demanded, given)
  where
    demanded : verdict s ≡ Err (refused_at n r) → Demanded s n r
    demanded e =
        ⊎_elim (λ (fault, a, b). Demanded.size fault a b)
        (λ (sized, e).
        ⊎_elim (λ (below, before, fault). Demanded.test sized below before fault)
        (λ (all, e). let (m, w, a, b) = (by_field s n r).0 e in Demanded.no_field_lem sized all m w a b)
        ((by_test s n r).0 e))
        ((by_size s n r).0 e)

    given : Demanded s n r → verdict s ≡ Err (refused_at n r)
    given (Demanded.size fault a b) = (by_size s n r).1 (inl (fault, a, b))
    given (Demanded.test sized below before fault) = (by_size s n r).1 (inr (sized, (by_test s n r).1 (inl (below, before, fault))))
    given (Demanded.no_field_lem sized all m w a b) =
        (by_size s n r).1 (inr (sized, (by_test s n r).1 (inr (all, (by_field s n r).1 (m, w, a, b)))))

-- the record is one of the file's, or SIZE's record 0, and a file has no more than 192
pub refused_record : (s : List ℕ) (n : Refusal) (r : ℕ) → verdict s ≡ Err (refused_at n r) → r ≤ 192
unfolding size_fault
refused_record s n r e = within ((refused s n r).0 e)
  where
    few : size_fault s ≡ false → records s ≤ 192
    few sized = omega (arith, simp meanings at sized)

    within : Demanded s n r → r ≤ 192
    within (Demanded.size fault a b) = omega arith
    within (Demanded.test sized below before fault) = omega (arith, few sized)
    within (Demanded.no_field_lem sized all m w a b) =
        let c = totals s in
        let p = parted s (records s) c.frames c.messages c.fields (λ i l. ((order_clear s i (counts_before s i)).0 (all i l).order).rises) refl in
        omega (arith, few sized, w.message, p.total)

-- a byte that is given is one of the record's, and not its first, of which nothing is said
pub refused_byte : (s : List ℕ) (fault : Fault) (k r : ℕ) → verdict s ≡ Err (refused_at (Refusal.Byte (wrong_byte fault k)) r) → (1 ≤ k) × (k < 24)
refused_byte s fault k r e = within ((refused s (Refusal.Byte (wrong_byte fault k)) r).0 e)
  where
    tested : {c : Counts} → Fails s r c (Refusal.Byte (wrong_byte fault k)) → (1 ≤ k) × (k < 24)
    tested (Fails.order o e) = absurd (let z : ◌≡◌ {A = ℕ} 0 1 = cc in omega arith)
    tested (Fails.byte o way j w e) =
        let same : wrong_byte fault k ≡ wrong_byte way j = cc in
        rw (ap (λ (b : RangeFault). b.byte) same) (after_kind s r way j w, w.byte)
    tested (Fails.ref o all f e) = absurd (let z : ◌≡◌ {A = ℕ} 0 1 = cc in omega arith)
    tested (Fails.group o all f g e) = absurd (let z : ◌≡◌ {A = ℕ} 0 1 = cc in omega arith)
    tested (Fails.place o all f g p e) = absurd (let z : ◌≡◌ {A = ℕ} 0 1 = cc in omega arith)

    within : Demanded s (Refusal.Byte (wrong_byte fault k)) r → (1 ≤ k) × (k < 24)
    within (Demanded.size f e at) = absurd (let z : ◌≡◌ {A = ℕ} 0 1 = cc in omega arith)
    within (Demanded.test sized below before fault) = tested fault
    within (Demanded.no_field_lem sized all m w e at) = absurd (let z : ◌≡◌ {A = ℕ} 0 1 = cc in omega arith)
