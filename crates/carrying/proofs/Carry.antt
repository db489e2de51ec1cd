-- The carried walk is the new board's walk: before the target, at it and behind it.
-- Assumes nothing.
use mathlib.Core.Path.{◌≡◌, refl, sym, ap, ◌∙◌, subst, subst⁻¹}
use Prim.Native.Nat.{ℕ, zero, suc, ◌≤◌, ◌<◌}
use native.Mathlib.Omega.{arith}
use mathlib.Core.Bool.{Bool, true, false, cond, not, ◌||◌, ◌&&◌, and-false, false≢true}
use mathlib.Core.List.{List, [], ◌∷◌, ◌++◌, append_assoc, append-nil}
use lib.Dec.{eqb}
use borrow.Author.Tests.{eq-eqb, ne_eqb, eqb-true, eqb-false}
use Rattle.std.proofs.lemmas.Bool.{false_from_ne_true}
use Rattle.reading.specs.Table.{mem}
use Rattle.reading.specs.Visit.{choose}
use Rattle.reading.proofs.Table.{or_right, or_left}
use Rattle.carrying.specs.Carried.{Way, Carried, Change, Changes, mark, enter, through, walk, up_to, on_way, with_rest, copies, turn, look, skim, sources_before, sources_after, fresh, carry}
use Rattle.carrying.proofs.Lists.{mem_one, mem_either, mem_second, through-append}
use Rattle.carrying.proofs.ListParts.{part, parts, parts_append, walk_seen, walk_new, part_seen, part_new, walk_marks, walk_listed, walk_keeps, through_keeps, part_off, Ahead, ahead_refl}
use Rattle.carrying.proofs.Depth.{left, left_mark, left_all, left_walk, left_through, walk_filled}
use Rattle.carrying.proofs.Copying.{bare, Kept, kept_as, untouched, through_untouched, skim_bare, through_bare, skim_looks, cut, Next, late, late_through}

module _ (S S' : ℕ → List ℕ) (d : Change) (ch : Changes d S S') (n : ℕ)
    (bounded : d.adding ≡ true → (k s : ℕ) → mem s (S k) ≡ true → s < n) (source_in : d.adding ≡ true → d.source < n) where
  -- before the target the two walks are one; behind it the carried one is ahead of the old board's, or has nothing more to copy
  data Phase (r : List ℕ) (o : Way) (c : Carried) : Type 0 where
    before : o ≡ c.way → c.way.marks d.target ≡ false → Kept r c → Phase r o c
    after : Ahead S o c.way → c.way.marks d.target ≡ true → Kept r c → Phase r o c
    done : c.rest ≡ [] → Phase r o c

  record Stepped (r : List ℕ) (o p : Way) (c : Carried) : Type 0 where
    way_is : c.way ≡ p
    phase : Phase r o c

  -- an added wire's source is walked whole: the depth has to suffice
  abbrev Room : ℕ → Way → Type 0
  Room f o = d.adding ≡ true → left n o.marks ≤ f

  stepped_after : {r : List ℕ} {o p : Way} {c : Carried} → Next S S' d ch r o p c → p.marks d.target ≡ true → Stepped r o p c
  stepped_after x e = record { way_is = x.way_is; phase = after x.ahead (ap (λ (v : Way). v.marks d.target) x.way_is ∙ e) x.kept }

  is_bare : (c : Carried) → c.rest ≡ [] → c ≡ bare c.way
  is_bare c e = λ i. record { way = c.way; rest = e i }

  stepped_done : {r : List ℕ} {o p : Way} {c : Carried} → c ≡ bare p → Stepped r o p c
  stepped_done e = record { way_is = ap (λ (x : Carried). x.way) e; phase = done (ap (λ (x : Carried). x.rest) e) }

  phase_as : {r r' : List ℕ} {o : Way} {c : Carried} → r ≡ r' → Phase r o c → Phase r' o c
  phase_as {o = o} {c = c} e p = subst (λ (l : List ℕ). Phase l o c) e p

  phase_of : {r : List ℕ} {o o' : Way} {c c' : Carried} → o' ≡ o → c' ≡ c → Phase r o c → Phase r o' c'
  phase_of {r} {o} {c' = c'} e h p = subst⁻¹ (λ (v : Way). Phase r v c') e (subst⁻¹ (λ (x : Carried). Phase r o x) h p)

  -- ---- at the target

  added_turn : (f : ℕ) (o : Way) (c : Carried) (r : List ℕ) → d.adding ≡ true → c.way ≡ o → Room f o → c.way.marks d.target ≡ true → Kept (parts S f d.back o ++ r) c
      → Stepped r (through (walk S f) d.back o) (through (walk S' f) d.back (walk S' f d.source c.way))
      (through (skim S d f) d.back (with_rest c.rest (skim S d f d.source (with_rest [] c))))
  added_turn f o c r ad e room m k =
      subst⁻¹
      (λ (x : Carried). Stepped r (through (walk S f) d.back o) (through (walk S' f) d.back new) (through (skim S d f) d.back x))
      (ap (with_rest c.rest) (skim_bare S S' d ch f d.source c.way))
      (stepped_after (late_through S S' d ch f d.back o c₃ r ahead there kept) (through_keeps S' f d.back new d.target there))
    where
      new : Way
      new = walk S' f d.source c.way

      c₃ : Carried
      c₃ = record { way = new; rest = c.rest }

      there : new.marks d.target ≡ true
      there = walk_keeps S' f d.source c.way d.target m

      same : new ≡ walk S f d.source o
      same = ap (walk S' f d.source) e ∙ untouched S S' d ch f d.source o (part_off S f d.source o d.target (ap (λ (v : Way). v.marks d.target) (sym e) ∙ m))

      ahead : Ahead S o new
      ahead =
          subst⁻¹ (Ahead S o) same
          (record { has = walk_keeps S f d.source o; closed = walk_filled S n (bounded ad) f d.source o (source_in ad) (room ad) })

      kept : Kept (parts S f d.back o ++ r) c₃
      kept = record { junk = k.junk; rest-is = k.rest-is; marked = λ j h. walk_keeps S' f d.source c.way j (k.marked j h) }

  -- the old walk goes to the pulled wire's source, too
  pulled_turn : (f : ℕ) (o : Way) (c : Carried) (r : List ℕ) → c.way ≡ o → c.way.marks d.target ≡ true
      → Kept (parts S f (d.source ∷ d.back) o ++ r) c
      → Stepped r (through (walk S f) (d.source ∷ d.back) o) (through (walk S' f) d.back c.way)
      (through (skim S d f) d.back (choose (c.way.marks d.source) (λ _. c) (λ _. with_rest [] c)))
  pulled_turn f o c r e m k = pick (c.way.marks d.source) refl
    where
      pick : (b : Bool) → c.way.marks d.source ≡ b
          → Stepped r (through (walk S f) (d.source ∷ d.back) o) (through (walk S' f) d.back c.way) (through (skim S d f) d.back (choose b (λ _. c) (λ _. with_rest [] c)))
      pick true s =
          let seen : o.marks d.source ≡ true = ap (λ (v : Way). v.marks d.source) (sym e) ∙ s in
          let still : walk S f d.source o ≡ o = walk_seen S f d.source o seen in
          let as_is : parts S f (d.source ∷ d.back) o ++ r ≡ parts S f d.back o ++ r =
          λ i. (part_seen S f d.source o seen i ++ parts S f d.back (still i)) ++ r in
          subst⁻¹
          (λ (v : Way). Stepped r (through (walk S f) d.back v) (through (walk S' f) d.back c.way) (through (skim S d f) d.back c))
          still
          (stepped_after (late_through S S' d ch f d.back o c r (subst⁻¹ (Ahead S o) e (ahead_refl S o)) m (kept_as as_is k))
          (through_keeps S' f d.back c.way d.target m))
      pick false s = stepped_done (through_bare S S' d ch f d.back c.way)

  turned : (f : ℕ) (o : Way) (c : Carried) (r : List ℕ) → c.way ≡ o → Room f o → c.way.marks d.target ≡ true
      → Kept (parts S f (cond d.adding [] (d.source ∷ []) ++ d.back) o ++ r) c
      → Stepped r (through (walk S f) (cond d.adding [] (d.source ∷ []) ++ d.back) o) (through (walk S' f) (cond d.adding (d.source ∷ []) [] ++ d.back) c.way)
      (through (skim S d f) d.back (turn (skim S d f) d c))
  turned f o c r e room m k = pick d.adding refl k
    where
      pick : (b : Bool) → d.adding ≡ b → Kept (parts S f (cond b [] (d.source ∷ []) ++ d.back) o ++ r) c
          → Stepped r (through (walk S f) (cond b [] (d.source ∷ []) ++ d.back) o) (through (walk S' f) (cond b (d.source ∷ []) [] ++ d.back) c.way)
          (through (skim S d f) d.back
          (choose b (λ _. with_rest c.rest (skim S d f d.source (with_rest [] c))) (λ _. choose (c.way.marks d.source) (λ _. c) (λ _. with_rest [] c))))
      pick true ad h = added_turn f o c r ad e room m h
      pick false ad h = pulled_turn f o c r e m h

  at_target : (f : ℕ) (c : Carried) (r : List ℕ) → Room f c.way → c.way.marks d.target ≡ true → Kept (parts S f (sources_before d) c.way ++ r) c
      → Stepped r (through (walk S f) (sources_before d) c.way) (through (walk S' f) (sources_after d) c.way)
      (through (skim S d f) d.back (turn (skim S d f) d (through (skim S d f) d.front c)))
  at_target f c r room m k =
      record {
        way_is = two.way_is ∙ ap (λ (v : Way). through (walk S' f) new v) one.way_is ∙ sym (through-append (walk S' f) d.front new c.way);
        phase = phase_of (through-append (walk S f) d.front old c.way) refl two.phase;
      }
    where
      old : List ℕ
      old = cond d.adding [] (d.source ∷ []) ++ d.back

      new : List ℕ
      new = cond d.adding (d.source ∷ []) [] ++ d.back

      o₂ : Way
      o₂ = through (walk S f) d.front c.way

      c₂ : Carried
      c₂ = through (skim S d f) d.front c

      one : Next S S' d ch (parts S f old o₂ ++ r) o₂ (through (walk S' f) d.front c.way) c₂
      one =
          late_through S S' d ch f d.front c.way c (parts S f old o₂ ++ r) (ahead_refl S c.way) m
          (kept_as (ap (λ (l : List ℕ). l ++ r) (parts_append S f d.front old c.way) ∙ append_assoc (parts S f d.front c.way) (parts S f old o₂) r) k)

      same : c₂.way ≡ o₂
      same = one.way_is ∙ through_untouched S S' d ch f d.front c.way m

      room₂ : Room f o₂
      room₂ ad = left_through S n (bounded ad) f f d.front c.way (room ad)

      there : c₂.way.marks d.target ≡ true
      there = ap (λ (v : Way). v.marks d.target) same ∙ through_keeps S f d.front c.way d.target m

      two : Stepped r (through (walk S f) old o₂) (through (walk S' f) new c₂.way) (through (skim S d f) d.back (turn (skim S d f) d c₂))
      two = turned f o₂ c₂ r same room₂ there one.kept

  -- ---- one node, and each of a list

  abbrev Steps : ℕ → Type 0
  Steps f = (u : ℕ) (o : Way) (c : Carried) (r : List ℕ) → (d.adding ≡ true → u < n) → Room f o → Phase (part S f u o ++ r) o c
      → Stepped r (walk S f u o) (walk S' f u c.way) (skim S d f u c)

  steps_through : (f : ℕ) → Steps f → (ss : List ℕ) (o : Way) (c : Carried) (r : List ℕ) → (d.adding ≡ true → (s : ℕ) → mem s ss ≡ true → s < n) → Room f o
      → Phase (parts S f ss o ++ r) o c → Stepped r (through (walk S f) ss o) (through (walk S' f) ss c.way) (through (skim S d f) ss c)
  steps_through f spec [] o c r below room p = record { way_is = refl; phase = p }
  steps_through f spec (s ∷ ss) o c r below room p =
      let one = spec s o c (parts S f ss (walk S f s o) ++ r) (λ ad. below ad s (or_left (mem s ss) (eq-eqb s s refl))) room
      (phase_as (append_assoc (part S f s o) (parts S f ss (walk S f s o)) r) p) in
      let two = steps_through f spec ss (walk S f s o) (skim S d f s c) r (λ ad j e. below ad j (or_right (eqb j s) e))
      (λ ad. left_walk S n (bounded ad) f s f o (room ad)) one.phase in
      record { way_is = two.way_is ∙ ap (λ (v : Way). through (walk S' f) ss v) one.way_is; phase = two.phase }

  -- the sources of a node on the way to the target, or of the target
  looked : (f : ℕ) → Steps f → (u : ℕ) (c : Carried) (r : List ℕ) → Room f c.way → c.way.marks u ≡ true → ((u ≡ d.target → ⊥) → c.way.marks d.target ≡ false)
      → Kept (parts S f (S u) c.way ++ r) c → Stepped r (through (walk S f) (S u) c.way) (through (walk S' f) (S' u) c.way) (look (skim S d f) S d u c)
  looked f spec u c r room m ahead k = pick (eqb u d.target) refl
    where
      pick : (b : Bool) → eqb u d.target ≡ b → Stepped r (through (walk S f) (S u) c.way) (through (walk S' f) (S' u) c.way)
          (choose b (λ _. through (skim S d f) d.back (turn (skim S d f) d (through (skim S d f) d.front c))) (λ _. through (skim S d f) (S u) c))
      pick true e =
          let is = eqb-true u d.target e in
          let was : S u ≡ sources_before d = ap S is ∙ ch.was in
          let now : S' u ≡ sources_after d = ap S' is ∙ ch.now in
          let x = at_target f c r room (ap c.way.marks (sym is) ∙ m) (kept_as (ap (λ (ss : List ℕ). parts S f ss c.way ++ r) was) k) in
          record {
            way_is = x.way_is ∙ ap (λ (ss : List ℕ). through (walk S' f) ss c.way) (sym now);
            phase = phase_of (ap (λ (ss : List ℕ). through (walk S f) ss c.way) was) refl x.phase;
          }
      pick false e =
          let apart = eqb-false u d.target e in
          let x = steps_through f spec (S u) c.way c r (λ ad. bounded ad u) room (before refl (ahead apart) k) in
          record { way_is = x.way_is ∙ ap (λ (ss : List ℕ). through (walk S' f) ss c.way) (sym (ch.others u apart)); phase = x.phase }

  -- the node itself is listed
  entered : (u : ℕ) (r : List ℕ) (o p : Way) (c : Carried) → p.marks u ≡ true → Stepped (u ∷ r) o p c → Stepped r (enter u o) (enter u p) (on_way (enter u) c)
  entered u r o p c m x = record { way_is = ap (enter u) x.way_is; phase = pick x.phase }
    where
      here : c.way.marks u ≡ true
      here = ap (λ (v : Way). v.marks u) x.way_is ∙ m

      kept : Kept (u ∷ r) c → Kept r (on_way (enter u) c)
      kept k =
          record {
            junk = k.junk ++ (u ∷ []);
            rest-is = k.rest-is ∙ sym (append_assoc k.junk (u ∷ []) r);
            marked = λ j h. mem_either j k.junk (u ∷ []) h (k.marked j) (λ i. ap c.way.marks (mem_one j u i) ∙ here);
          }

      pick : Phase (u ∷ r) o c → Phase r (enter u o) (on_way (enter u) c)
      pick (before e t k) = before (ap (enter u) e) t (kept k)
      pick (after a t k) = after (record { has = a.has; closed = a.closed }) t (kept k)
      pick (done e) = done e

  -- a node on the way to the target, or the target
  inside : (f : ℕ) → Steps f → (u : ℕ) (c : Carried) (r : List ℕ) → (d.adding ≡ true → u < n) → Room (suc f) c.way → c.way.marks d.target ≡ false
      → mem d.target (part S (suc f) u c.way) ≡ true → c.way.marks u ≡ false → Kept (part S (suc f) u c.way ++ r) c
      → Stepped r (walk S (suc f) u c.way) (walk S' (suc f) u c.way) (skim S d (suc f) u c)
  inside f spec u c r below room t e m k =
      record {
        way_is = ap (λ (y : Carried). y.way) skims ∙ x.way_is ∙ sym (walk_new S' f u c.way m);
        phase = phase_of (walk_new S f u c.way m) skims x.phase;
      }
    where
      q : Way
      q = mark u c.way

      c₁ : Carried
      c₁ = on_way (mark u) c

      here : q.marks u ≡ true
      here = or_left (c.way.marks u) (eq-eqb u u refl)

      copies_not : copies d u c ≡ false
      copies_not =
          ap (λ (b : Bool). mem u c.rest && (b || not (mem d.target (up_to u c.rest)))) t
          ∙ ap (λ (l : List ℕ). mem u c.rest && not (mem d.target l)) (cut S S' d ch f u c.way r c k m m).first
          ∙ ap (λ (b : Bool). mem u c.rest && not b) (mem_second d.target k.junk (part S (suc f) u c.way) e)
          ∙ and-false (mem u c.rest)

      skims : skim S d (suc f) u c ≡ on_way (enter u) (look (skim S d f) S d u c₁)
      skims = skim_looks S S' d ch f u c m copies_not

      kept : Kept (parts S f (S u) q ++ (u ∷ r)) c₁
      kept =
          record {
            junk = k.junk;
            rest-is =
                k.rest-is ∙ ap (λ (l : List ℕ). k.junk ++ (l ++ r)) (part_new S f u c.way m)
                ∙ ap (λ (l : List ℕ). k.junk ++ l) (append_assoc (parts S f (S u) q) (u ∷ []) r);
            marked = λ j h. or_right (eqb j u) (k.marked j h);
          }

      room₁ : Room f q
      room₁ ad = (let a = left_mark n u c.way (below ad) m in let b = room ad in omega arith)

      x : Stepped r (enter u (through (walk S f) (S u) q)) (enter u (through (walk S' f) (S' u) q)) (on_way (enter u) (look (skim S d f) S d u c₁))
      x =
          entered u r (through (walk S f) (S u) q) (through (walk S' f) (S' u) q) (look (skim S d f) S d u c₁) (through_keeps S' f (S' u) q u here)
          (looked f spec u c₁ (u ∷ r) room₁ here (λ apart. ap (λ (b : Bool). b || c.way.marks d.target) (ne_eqb d.target u (λ p. apart (sym p))) ∙ t) kept)

  -- before the target
  outside : (f u : ℕ) (c : Carried) (r : List ℕ) → c.way.marks d.target ≡ false → mem d.target (part S f u c.way) ≡ false
      → Kept (part S f u c.way ++ r) c → Stepped r (walk S f u c.way) (walk S' f u c.way) (skim S d f u c)
  outside f u c r t e k =
      let x = late S S' d ch f u c.way c r (ahead_refl S c.way) e k in
      let same : (skim S d f u c).way ≡ walk S f u c.way = x.way_is ∙ untouched S S' d ch f u c.way e in
      record {
        way_is = x.way_is;
        phase = before (sym same)
            (ap (λ (v : Way). v.marks d.target) same ∙ walk_marks S f u c.way d.target ∙ ap (λ (b : Bool). b || c.way.marks d.target) e ∙ t)
            x.kept;
      }

  step_before : (f : ℕ) (spec : (g : ℕ) → f ≡ suc g → Steps g) (u : ℕ) (c : Carried) (r : List ℕ) → (d.adding ≡ true → u < n) → Room f c.way → c.way.marks d.target ≡ false
      → Kept (part S f u c.way ++ r) c → Stepped r (walk S f u c.way) (walk S' f u c.way) (skim S d f u c)
  step_before zero spec u c r below room t k = outside zero u c r t refl k
  step_before (suc f) spec u c r below room t k = pick (mem d.target (part S (suc f) u c.way)) refl
    where
      pick : (b : Bool) → mem d.target (part S (suc f) u c.way) ≡ b → Stepped r (walk S (suc f) u c.way) (walk S' (suc f) u c.way) (skim S d (suc f) u c)
      pick true e =
          inside f (spec f refl) u c r below room t e
          (false_from_ne_true (c.way.marks u) (λ h. false≢true (ap (mem d.target) (sym (part_seen S (suc f) u c.way h)) ∙ e))) k
      pick false e = outside (suc f) u c r t e k

  step_by : (f : ℕ) → ((g : ℕ) → f ≡ suc g → Steps g) → Steps f
  step_by f spec u o c r below room (before e t k) =
      subst⁻¹ (λ (v : Way). Room f v → Kept (part S f u v ++ r) c → Stepped r (walk S f u v) (walk S' f u c.way) (skim S d f u c)) e
      (λ rm kp. step_before f spec u c r below rm t kp) room k
  step_by f spec u o c r below room (after a t k) =
      stepped_after (late S S' d ch f u o c r a (part_off S f u c.way d.target t) k) (walk_keeps S' f u c.way d.target t)
  step_by f spec u o c r below room (done e) = stepped_done (ap (skim S d f u) (is_bare c e) ∙ skim_bare S S' d ch f u c.way)

  steps : (f : ℕ) → Steps f
  steps zero = step_by zero (λ g e. absurd (let z : ◌≡◌ {A = ℕ} 0 1 = cc in omega arith))
  steps (suc f) = step_by (suc f) (λ g e. subst Steps (let h : f ≡ g = omega arith in h) (steps f))

  -- the carried list is the new board's
  pub carry_is : (d.adding ≡ true → 0 < n) → carry S d n (walk S n 0 fresh).listed ≡ (walk S' n 0 fresh).listed
  carry_is pos =
      ap (λ (v : Way). v.listed)
      (steps n 0 fresh (record { way = fresh; rest = (walk S n 0 fresh).listed }) [] pos (λ _. left_all n)
      (before refl refl
      (record { junk = []; rest-is = walk_listed S n 0 fresh ∙ sym (append-nil (part S n 0 fresh)); marked = λ j h. absurd (false≢true h) }))
      ).way_is
