-- What of the whole is seen of the plan behind the Share: its tokens, and which of its handshakes are open.
use Rattle.std.specs.Prelude.{◌≡◌, ℕ, ◌+◌, ◌*◌, ◌<◌, Bool, true, false, ◌&&◌, List, [], ◌∷◌, length, Option, Some, None, slice_get, nat_lt}
use Rattle.std.proofs.Common.{refl, sym, ◌∙◌, ap, subst, arith, if◌then◌else◌}
use Rattle.std.proofs.lemmas.Bool.Decides.{nat_tests}
use Rattle.std.proofs.lemmas.Option.{same_Some}
use Rattle.gos_types.specs.declared.shakes.Role.{Role}
use Rattle.gos_types.specs.declared.shakes.Role.TheVariants.{Serve, Ask}
use Rattle.gos_types.specs.Types.{Type'}
use Rattle.gos_types.specs.Events.{Direction, Request, Answer}
use Rattle.gos_plan.specs.Kinds.{Part, Share, Contact, contacts_of}
use Rattle.gos_plan.specs.Firing.{Rest, State, at, Slot, Token, Row}
use Rattle.gos_plan.specs.Plans.{End, ResultEnd, Plan, contact_at, same_end}
use Rattle.gos_plan.specs.Tokens.{Tokens, Element, Fire, Out, In, places_of, same_way, with_place, with_state, held_at, with_held, token_at, with_token, with_puts, end_of, way_of, way_taken, way_put, firing_of, fired, Does}
use Rattle.gos_plan.specs.Orderly.{Open, named_by, handshake_at, with_open, after_taken, after_put, after_puts, ComesWell, AllComeWell, ComesInOrder}
use Rattle.gos_plan.proofs.JointLemmas.{same_is, joined}
use Rattle.gos_plan.proofs.HeldLemmas.{takes_of}
use Rattle.gos_plan.proofs.ElementLemmas.{firing_part}
use Rattle.gos_realises.specs.realises.Regular.{count}
use Rattle.gos_joining.specs.webs.Cutting.{lies_at, cut_tokens}
use Rattle.gos_joining.proofs.webs.CutLemmas.{asker_asks, place_filled, token_lost, state_put, state_lost}
use Rattle.gos_supplies.proofs.turns.StandLemmas.{opened_apart}
use Rattle.gos_sharing.specs.sharing.Sharing.{caller_end}
use Rattle.gos_sharing.specs.buffers.Buffering.{end_behind}
use Rattle.gos_sharing.specs.behind.Behind.{IsBehind}
use Rattle.gos_sharing.proofs.behind.EndLemmas.{Owned, asker, not_asker, own_part, same_behind, owned_contact, contact_behind}
use Rattle.gos_sharing.proofs.behind.LyingLemmas.{lying, lies_behind, share_outside, is_cut, place_there, no_place, result_place, caller_place}

-- names of the outer joints are apart
pub asker_one : (i : ℕ) (t : Type') (c j l : ℕ) (role other : Role) → asker i t c j role ≡ asker i t c l other → j ≡ l
asker_one i t c j l Serve Serve e = cc e
asker_one i t c j l Serve Ask e = absurd (cc e)
asker_one i t c j l Ask Serve e = absurd (cc e)
asker_one i t c j l Ask Ask e = let same : count t + c * count t + j ≡ count t + c * count t + l = cc e in omega (arith, same)

-- filling one place keeps the others
pub other_place : (x d : End) (way w : Direction) (held : Option ℕ) (s : Tokens) → (d ≡ x → ⊥) → (with_place way x held s).in_place w d ≡ s.in_place w d
other_place x d way w held s apart = by_test (same_end d x) refl
  where
    by_test : (b : Bool) → same_end d x ≡ b → (if same_way w way && same_end d x then held else s.in_place w d) ≡ s.in_place w d
    by_test true h = absurd (apart (same_is d x h))
    by_test false h = let no : same_way w way && same_end d x ≡ false = grind (arith, h) in ap (λ (b : Bool). if b then held else s.in_place w d) no

module _ (i : ℕ) (t : Type') (c : ℕ) (r p : Plan) (is : IsBehind i t c r p) where
  abbrev behind : End → End
  behind = end_behind i

  abbrev pub seen : Tokens → Tokens
  seen = cut_tokens (lying i p) p

  abbrev owned : End → Type 0
  owned = Owned t p

  -- names
  owned_asker : (e a : End) → places_of p e ≡ Some a → owned a
  owned_asker e a there = let one = joined p e a is.also_right there in owned_contact i t c r p is.frame a one.asker one.is_asker

  pub names : (e : End) → owned e → (handshake_at r (behind e) ≡ behind (handshake_at p e)) × owned (handshake_at p e)
  names e own = by_place (places_of p e) refl
    where
      by_place : (o : Option End) → places_of p e ≡ o → (handshake_at r (behind e) ≡ behind (handshake_at p e)) × owned (handshake_at p e)
      by_place (Some a) named =
          let here : handshake_at p e ≡ a = ap (λ (x : Option End). named_by x e) named in (
            ap (λ (x : Option End). named_by x (behind e)) (place_there i t c r p is e a named) ∙ ap behind (sym here),
            subst owned (sym here) (owned_asker e a named),
          )
      by_place None none =
          let here : handshake_at p e ≡ e = ap (λ (x : Option End). named_by x e) none in
          (ap (λ (x : Option End). named_by x (behind e)) (no_place i t c r p is e own none) ∙ ap behind (sym here), subst owned (sym here) own)

  -- tokens
  pub token_so : (e : End) → owned e → (s : Tokens) (way : Direction) → token_at p (seen s) e way ≡ token_at r s (behind e) way
  token_so e own s way = by_place (places_of p e) refl
    where
      by_place : (o : Option End) → places_of p e ≡ o → token_at p (seen s) e way ≡ token_at r s (behind e) way
      by_place None none = ap (held_at (seen s) way) none ∙ ap (held_at s way) (sym (no_place i t c r p is e own none))
      by_place (Some a) named =
          ap (held_at (seen s) way) named
          ∙ (ap (λ (b : Bool). if b then s.in_place way (lies_at (lying i p) a) else None) (asker_asks p e a named)
          ∙ (ap (s.in_place way) (lies_behind i p a)
          ∙ ap (held_at s way) (sym (place_there i t c r p is e a named))))

  pub put_so : (e : End) → owned e → (way : Direction) (held : Option ℕ) (s : Tokens) → with_token p e way held (seen s) ≡ seen (with_token r (behind e) way held s)
  put_so e own way held s = by_place (places_of p e) refl
    where
      by_place : (o : Option End) → places_of p e ≡ o → with_token p e way held (seen s) ≡ seen (with_token r (behind e) way held s)
      by_place None none =
          ap (λ o. with_held way o held (seen s)) none ∙ ap (λ o. seen (with_held way o held s)) (sym (no_place i t c r p is e own none))
      by_place (Some a) named =
          ap (λ o. with_held way o held (seen s)) named
          ∙ (place_filled (lying i p) r p (is_cut i t c r p is) a (asker_asks p e a named) way held s
          ∙ (ap (λ x. seen (with_place way x held s)) (lies_behind i p a)
          ∙ ap (λ o. seen (with_held way o held s)) (sym (place_there i t c r p is e a named))))

  pub outer_put : (j : ℕ) (way : Direction) (held : Option ℕ) (s : Tokens) → seen (with_token r (ResultEnd j) way held s) ≡ seen s
  outer_put j way held s = token_lost (lying i p) r p (is_cut i t c r p is) (ResultEnd j) refl way held s

  pub caller_put : (j : ℕ) (k : Contact) → slice_get (contacts_of t) j ≡ Some k → (way : Direction) (held : Option ℕ) (s : Tokens)
      → seen (with_token r (caller_end i t c j) way held s) ≡ seen s
  caller_put j k at way held s =
      ap (λ o. seen (with_held way o held s)) (caller_place i t c r p is j k at ∙ sym (result_place i t c r p is j k at)) ∙ outer_put j way held s

  pub share_put : (q : State) (s : Tokens) → seen (with_state i q s) ≡ seen s
  share_put q s = state_lost (lying i p) r p (is_cut i t c r p is) i (Share t) (share_outside i t c r p is) q s

  -- the places of the outer joints are apart from those behind
  pub frame : (e : End) → owned e → (way w : Direction) (held : Option ℕ) (s : Tokens) (j : ℕ) (role : Role)
      → (with_token r (behind e) way held s).in_place w (asker i t c j role) ≡ s.in_place w (asker i t c j role)
  frame e own way w held s j role = by_place (places_of p e) refl
    where
      by_place : (o : Option End) → places_of p e ≡ o → (with_token r (behind e) way held s).in_place w (asker i t c j role) ≡ s.in_place w (asker i t c j role)
      by_place None none = ap (λ o. (with_held way o held s).in_place w (asker i t c j role)) (no_place i t c r p is e own none)
      by_place (Some a) named =
          ap (λ o. (with_held way o held s).in_place w (asker i t c j role)) (place_there i t c r p is e a named)
          ∙ other_place (behind a) (asker i t c j role) way w held s (λ same. not_asker i t c r p is.frame a j role (owned_asker e a named) (sym same))

  pub frame_open : (e : End) → owned e → (b : Bool) (o : Open) (j : ℕ) (role : Role) → with_open (handshake_at r (behind e)) b o (asker i t c j role) ≡ o (asker i t c j role)
  frame_open e own b o j role =
      let (named, also) = names e own in
      opened_apart (handshake_at r (behind e)) (asker i t c j role) b o (λ same. not_asker i t c r p is.frame (handshake_at p e) j role also (sym named ∙ sym same))

  pub outer_frame : (j l : ℕ) (k : Contact) (role : Role) → slice_get (contacts_of t) j ≡ Some k → (j ≡ l → ⊥) → (way w : Direction) (held : Option ℕ) (s : Tokens)
      → (with_token r (ResultEnd j) way held s).in_place w (asker i t c l role) ≡ s.in_place w (asker i t c l role)
  outer_frame j l k role at apart way w held s =
      ap (λ o. (with_held way o held s).in_place w (asker i t c l role)) (result_place i t c r p is j k at)
      ∙ other_place (asker i t c j k.role) (asker i t c l role) way w held s (λ same. apart (sym (asker_one i t c l j role k.role same)))

  -- what is open
  abbrev pub Opens : Open → Open → Type 0
  Opens o own = (e : End) → owned e → o (behind e) ≡ own e

  opens_with : (own o : Open) → Opens o own → (a : End) → owned a → (b : Bool) → Opens (with_open (behind a) b o) (with_open a b own)
  opens_with own o opens a here b e also = λ l. if same_behind i t c r p is.frame e a also here l then b else opens e also l

  pub put_opens : (own o : Open) → Opens o own → (e : End) → owned e → (way : Direction) → Opens (after_put r (behind e) way o) (after_put p e way own)
  put_opens own o opens e here Request =
      let (named, also) = names e here in
      subst (λ (n : End). Opens (with_open n true o) (with_open (handshake_at p e) true own)) (sym named) (opens_with own o opens (handshake_at p e) also true)
  put_opens own o opens e here Answer = opens

  pub taken_opens : (own o : Open) → Opens o own → (e : End) → owned e → (way : Direction) → Opens (after_taken r (behind e) way o) (after_taken p e way own)
  taken_opens own o opens e here Request = opens
  taken_opens own o opens e here Answer =
      let (named, also) = names e here in
      subst (λ (n : End). Opens (with_open n false o) (with_open (handshake_at p e) false own)) (sym named) (opens_with own o opens (handshake_at p e) also false)

  pub outer_opens : (own o : Open) → Opens o own → (j : ℕ) (role : Role) (b : Bool) → Opens (with_open (asker i t c j role) b o) own
  outer_opens own o opens j role b e here =
      opened_apart (asker i t c j role) (behind e) b o (λ same. not_asker i t c r p is.frame e j role here same) ∙ opens e here

  pub comes_well : (own o : Open) → Opens o own → (e : End) → owned e → (way : Direction) (s : Tokens) → ComesWell p e way own (seen s) → ComesWell r (behind e) way o s
  comes_well own o opens e here Request s well = let (named, also) = names e here in ap o named ∙ (opens (handshake_at p e) also ∙ well)
  comes_well own o opens e here Answer s well =
      let (named, also) = names e here in
      (ap o named ∙ (opens (handshake_at p e) also ∙ well.0), λ w. sym (token_so e here s w) ∙ well.1 w)

  -- the outer joints are as they were
  pub record Untouched (o m : Open) (s w : Tokens) : Type 0 where
    pub opening : (j : ℕ) (role : Role) → m (asker i t c j role) ≡ o (asker i t c j role)
    pub place : (j : ℕ) (role : Role) (way : Direction) → w.in_place way (asker i t c j role) ≡ s.in_place way (asker i t c j role)

  untouched_then : (o m u : Open) (s w z : Tokens) → Untouched o m s w → Untouched m u w z → Untouched o u s z
  untouched_then o m u s w z one other =
      record { opening = λ j role. other.opening j role ∙ one.opening j role; place = λ j role way. other.place j role way ∙ one.place j role way }

  pub put_untouched : (o : Open) (s : Tokens) (e : End) → owned e → (way : Direction) (held : Option ℕ)
      → Untouched o (after_put r (behind e) way o) s (with_token r (behind e) way held s)
  put_untouched o s e here Request held =
      record { opening = λ j role. frame_open e here true o j role; place = λ j role w. frame e here Request w held s j role }
  put_untouched o s e here Answer held = record { opening = λ j role. refl; place = λ j role w. frame e here Answer w held s j role }

  pub taken_untouched : (o : Open) (s : Tokens) (e : End) → owned e → (way : Direction) (held : Option ℕ)
      → Untouched o (after_taken r (behind e) way o) s (with_token r (behind e) way held s)
  taken_untouched o s e here Request held = record { opening = λ j role. refl; place = λ j role w. frame e here Request w held s j role }
  taken_untouched o s e here Answer held =
      record { opening = λ j role. frame_open e here false o j role; place = λ j role w. frame e here Answer w held s j role }

  -- tokens that a part puts
  record Comes (n : ℕ) (ts : List Token) (own o : Open) (s : Tokens) : Type 0 where
    well : AllComeWell r n ts o s
    opens : Opens (after_puts r n ts o) (after_puts p n ts own)
    untouched : Untouched o (after_puts r n ts o) s (with_puts r n ts s)

  all_come : (n : ℕ) → n < length p.parts → (ts : List Token) (own o : Open) → Opens o own → (s : Tokens) → AllComeWell p n ts own (seen s) → Comes n ts own o s
  all_come n low [] own o opens s well = record { well = tt; opens = opens; untouched = record { opening = λ j role. refl; place = λ j role way. refl } }
  all_come n low (x ∷ ts) own o opens s (well, more) =
      let rest =
      all_come n low ts (after_put p (end_of n x.slot) (way_of x.slot) own) (after_put r (end_of n x.slot) (way_of x.slot) o)
      (put_opens own o opens (end_of n x.slot) low (way_of x.slot)) (with_token r (end_of n x.slot) (way_of x.slot) (Some x.value) s)
      (subst (λ (z : Tokens). AllComeWell p n ts (after_put p (end_of n x.slot) (way_of x.slot) own) z) (put_so (end_of n x.slot) low (way_of x.slot) (Some x.value) s) more)
      in
      record {
        well = (comes_well own o opens (end_of n x.slot) low (way_of x.slot) s well, rest.well);
        opens = rest.opens;
        untouched =
            untouched_then o (after_put r (end_of n x.slot) (way_of x.slot) o) (after_puts r n (x ∷ ts) o) s
            (with_token r (end_of n x.slot) (way_of x.slot) (Some x.value) s) (with_puts r n (x ∷ ts) s)
            (put_untouched o s (end_of n x.slot) low (way_of x.slot) (Some x.value)) rest.untouched;
      }

  -- a step of the whole that comes in order where one of the plan does, and leaves the outer joints as they were
  pub record InOrder (x : Element) (own o : Open) (s w : Tokens) : Type 0 where
    pub opened : Open
    pub comes : ComesInOrder r x s o opened
    pub opens : Opens opened own
    pub untouched : Untouched o opened s w

  pub part_state : (s : Tokens) (n : ℕ) → n < length p.parts → (seen s).state n ≡ s.state n
  part_state s n low =
      let test : nat_lt n (length p.parts) ≡ true = grind (arith, nat_tests, low) in ap (λ (b : Bool). if b then s.state n else at Rest 0) test

  pub fire_order : (n : ℕ) → n < length p.parts → (slot : Slot) (own mown o : Open) (s w : Tokens) → Opens o own → Does r (Fire n slot) s w
      → ComesInOrder p (Fire n slot) (seen s) own mown → InOrder (Fire n slot) mown o s w
  fire_order n low slot own mown o s w opens (v, row, held, by, leads) comes =
      record {
        opened = m;
        comes = in_order;
        opens = subst (λ (z : Open). Opens m z) (sym now.1) all.opens;
        untouched = subst (λ (z : Tokens). Untouched o m s z) (sym leads) (untouched_then o taken m s (between v row) (fired r n row v s) before all.untouched);
      }
    where
      by_own : firing_of (slice_get p.parts n) ((seen s).state n) slot ≡ Some row
      by_own = (λ l. firing_of (sym (own_part i t c r p is.frame n low) l) (part_state s n low l) slot) ∙ by

      takes : row.takes ≡ slot
      takes = takes_of (slice_get r.parts n) (s.state n) slot row by

      between : ℕ → Row → Tokens
      between u y = with_state n (y.next u) (with_token r (end_of n y.takes) (way_of y.takes) None s)

      taken : Open
      taken = after_taken r (end_of n slot) (way_of slot) o

      m : Open
      m = after_puts r n (row.puts v) taken

      before : Untouched o taken s (between v row)
      before =
          subst (λ (y : Slot). Untouched o taken s (with_state n (row.next v) (with_token r (end_of n y) (way_of y) None s))) (sym takes)
          (record { opening = (taken_untouched o s (end_of n slot) low (way_of slot) None).opening; place = (taken_untouched o s (end_of n slot) low (way_of slot) None).place })

      now : AllComeWell p n (row.puts v) (after_taken p (end_of n slot) (way_of slot) own) (with_state n (row.next v) (with_token p (end_of n row.takes) (way_of row.takes) None (seen s)))
          × (mown ≡ after_puts p n (row.puts v) (after_taken p (end_of n slot) (way_of slot) own))
      now = comes v row (token_so (end_of n slot) low s (way_of slot) ∙ held) by_own

      part : (k : Part) × (slice_get p.parts n ≡ Some k)
      part = firing_part (slice_get p.parts n) ((seen s).state n) slot row by_own

      same : with_state n (row.next v) (with_token p (end_of n row.takes) (way_of row.takes) None (seen s)) ≡ seen (between v row)
      same =
          ap (with_state n (row.next v)) (put_so (end_of n row.takes) low (way_of row.takes) None s)
          ∙ state_put (lying i p) r p (is_cut i t c r p is) n part.0 part.1 (row.next v) (with_token r (end_of n row.takes) (way_of row.takes) None s)

      all : Comes n (row.puts v) (after_taken p (end_of n slot) (way_of slot) own) taken (between v row)
      all =
          all_come n low (row.puts v) (after_taken p (end_of n slot) (way_of slot) own) taken (taken_opens own o opens (end_of n slot) low (way_of slot)) (between v row)
          (subst (λ (x : Tokens). AllComeWell p n (row.puts v) (after_taken p (end_of n slot) (way_of slot) own) x) same now.0)

      in_order : ComesInOrder r (Fire n slot) s o m
      in_order u y lying_there firing_so =
          let value : v ≡ u = cc (held, lying_there) in
          let is_row : row ≡ y = cc (by, firing_so) in
          subst (λ (z : Row). AllComeWell r n (z.puts u) taken (between u z) × (m ≡ after_puts r n (z.puts u) taken)) is_row
          (subst (λ (u : ℕ). AllComeWell r n (row.puts u) taken (between u row) × (m ≡ after_puts r n (row.puts u) taken)) value (all.well, refl))

  -- an output or an input of an import
  pub out_order : (e : End) (v : ℕ) (k : Contact) → contact_at p e ≡ Some k → (own mown o : Open) (s : Tokens) → Opens o own
      → ComesInOrder p (Out e v) (seen s) own mown
      → InOrder (Out (behind e) v) mown o s (with_token r (behind e) (way_taken k.role) None s)
  out_order e v k at own mown o s opens comes =
      record {
        opened = after_taken r (behind e) (way_taken k.role) o;
        comes = λ d at_d.
            (let same : k ≡ d = same_Some k d (sym (contact_behind i t c r p is.frame e k at) ∙ at_d) in
            ap (λ (x : Contact). after_taken r (behind e) (way_taken x.role) o) same);
        opens = subst (λ (z : Open). Opens (after_taken r (behind e) (way_taken k.role) o) z) (sym (comes k at)) (taken_opens own o opens e here (way_taken k.role));
        untouched = taken_untouched o s e here (way_taken k.role) None;
      }
    where
      here : owned e
      here = owned_contact i t c r p is.frame e k at

  pub in_order : (e : End) (v : ℕ) (k : Contact) → contact_at p e ≡ Some k → (own mown o : Open) (s : Tokens) → Opens o own
      → ComesInOrder p (In e v) (seen s) own mown
      → InOrder (In (behind e) v) mown o s (with_token r (behind e) (way_put k.role) (Some v) s)
  in_order e v k at own mown o s opens comes =
      record {
        opened = after_put r (behind e) (way_put k.role) o;
        comes = λ d at_d.
            (let same : k ≡ d = same_Some k d (sym (contact_behind i t c r p is.frame e k at) ∙ at_d) in
            subst (λ (x : Contact). ComesWell r (behind e) (way_put x.role) o s × (after_put r (behind e) (way_put k.role) o ≡ after_put r (behind e) (way_put x.role) o)) same
            (comes_well own o opens e here (way_put k.role) s (comes k at).0, refl));
        opens = subst (λ (z : Open). Opens (after_put r (behind e) (way_put k.role) o) z) (sym (comes k at).1) (put_opens own o opens e here (way_put k.role));
        untouched = put_untouched o s e here (way_put k.role) (Some v);
      }
    where
      here : owned e
      here = owned_contact i t c r p is.frame e k at
