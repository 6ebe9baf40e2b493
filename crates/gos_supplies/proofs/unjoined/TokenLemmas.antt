-- What the whole does at ends of the plan, the plan does by itself.
use Rattle.std.specs.Prelude.{◌≡◌, ℕ, ◌&&◌, List, [], ◌∷◌, Option, Some, None, slice_get, if◌then◌else◌}
use Rattle.std.proofs.Common.{refl, sym, ◌∙◌, ap, subst}
use Rattle.gos_types.specs.Events.{Direction}
use Rattle.gos_plan.specs.Kinds.{Contact}
use Rattle.gos_plan.specs.Firing.{State, Slot, Token, Row}
use Rattle.gos_plan.specs.Plans.{End, Plan, contact_at}
use Rattle.gos_plan.specs.Tokens.{Tokens, Element, Fire, Out, In, places_of, same_way, with_state, held_at, with_held, token_at, with_token, with_puts, end_of, way_of, way_taken, way_put, fired, firing_of, Passes, Does, Runs, IsIdle, IsQuiet}
use Rattle.gos_supplies.specs.unjoined.Beside.{Placing, placed}
use Rattle.gos_supplies.proofs.unjoined.PlacedLemmas.{IsPlaced, placed_if, same_placed, same_number, contact_placed, port_placed, placed_port, place_placed}

-- an element of the plan, in the whole
abbrev pub set : Placing → Element → Element
set f (Fire i t) = Fire (f.part i) t
set f (Out e v) = Out (placed f e) v
set f (In e v) = In (placed f e) v

abbrev pub set_list : Placing → List Element → List Element
set_list f [] = []
set_list f (x ∷ xs) = set f x ∷ set_list f xs

-- the tokens of the plan
abbrev pub own_tokens : Placing → Tokens → Tokens
own_tokens f s = record { in_place = λ way e. s.in_place way (placed f e); state = λ i. s.state (f.part i) }

pub own_idle : (f : Placing) (r c : Plan) (s : Tokens) → IsIdle r s → IsIdle c (own_tokens f s)
own_idle f r c s idle = (λ way e. idle.0 way (placed f e), λ i. idle.1 (f.part i))

module _ (f : Placing) (r c : Plan) (is : IsPlaced f r c) where
  held_own : (s : Tokens) (way : Direction) (o : Option End) → held_at s way (placed_if f o) ≡ held_at (own_tokens f s) way o
  held_own s way None = refl
  held_own s way (Some a) = refl

  pub token_own : (s : Tokens) (e : End) (way : Direction) → token_at r s (placed f e) way ≡ token_at c (own_tokens f s) e way
  token_own s e way = ap (held_at s way) (place_placed f r c is e) ∙ held_own s way (places_of c e)

  held_filled : (way : Direction) (o : Option End) (held : Option ℕ) (s : Tokens)
      → own_tokens f (with_held way (placed_if f o) held s) ≡ with_held way o held (own_tokens f s)
  held_filled way None held s = refl
  held_filled way (Some a) held s =
      λ i. record {
        in_place = λ w d. if same_way w way && same_placed f r c is d a i then held else s.in_place w (placed f d);
        state = λ j. s.state (f.part j);
      }

  pub token_filled : (e : End) (way : Direction) (held : Option ℕ) (s : Tokens)
      → own_tokens f (with_token r (placed f e) way held s) ≡ with_token c e way held (own_tokens f s)
  token_filled e way held s =
      ap (λ (o : Option End). own_tokens f (with_held way o held s)) (place_placed f r c is e) ∙ held_filled way (places_of c e) held s

  pub state_filled : (i : ℕ) (q : State) (s : Tokens) → own_tokens f (with_state (f.part i) q s) ≡ with_state i q (own_tokens f s)
  state_filled i q s =
      λ k. record {
        in_place = λ w d. s.in_place w (placed f d);
        state = λ j. if same_number f r c is j i k then q else s.state (f.part j);
      }

  puts_own : (i : ℕ) (ts : List Token) (s : Tokens) → own_tokens f (with_puts r (f.part i) ts s) ≡ with_puts c i ts (own_tokens f s)
  puts_own i [] s = refl
  puts_own i (t ∷ ts) s =
      puts_own i ts (with_token r (end_of (f.part i) t.slot) (way_of t.slot) (Some t.value) s)
      ∙ ap (with_puts c i ts) (token_filled (end_of i t.slot) (way_of t.slot) (Some t.value) s)

  pub taken_own : (i : ℕ) (x : Row) (v : ℕ) (s : Tokens)
      → own_tokens f (with_state (f.part i) (x.next v) (with_token r (end_of (f.part i) x.takes) (way_of x.takes) None s))
      ≡ with_state i (x.next v) (with_token c (end_of i x.takes) (way_of x.takes) None (own_tokens f s))
  taken_own i x v s =
      state_filled i (x.next v) (with_token r (end_of (f.part i) x.takes) (way_of x.takes) None s)
      ∙ ap (with_state i (x.next v)) (token_filled (end_of i x.takes) (way_of x.takes) None s)

  pub fired_own : (i : ℕ) (x : Row) (v : ℕ) (s : Tokens) → own_tokens f (fired r (f.part i) x v s) ≡ fired c i x v (own_tokens f s)
  fired_own i x v s =
      puts_own i (x.puts v) (with_state (f.part i) (x.next v) (with_token r (end_of (f.part i) x.takes) (way_of x.takes) None s))
      ∙ ap (with_puts c i (x.puts v)) (taken_own i x v s)

  pub firing_own : (i : ℕ) (t : Slot) (s : Tokens)
      → firing_of (slice_get r.parts (f.part i)) (s.state (f.part i)) t ≡ firing_of (slice_get c.parts i) ((own_tokens f s).state i) t
  firing_own i t s = ap (λ k. firing_of k (s.state (f.part i)) t) (is.parts i)

  out_own : (e : End) (v : ℕ) (o : Option Contact) (s t : Tokens) → Passes r (Out (placed f e) v) o s t
      → Passes c (Out e v) o (own_tokens f s) (own_tokens f t)
  out_own e v None s t h = h
  out_own e v (Some k) s t (held, is_t) =
      (sym (token_own s e (way_taken k.role)) ∙ held, ap (own_tokens f) is_t ∙ token_filled e (way_taken k.role) None s)

  in_own : (e : End) (v : ℕ) (o : Option Contact) (s t : Tokens) → Passes r (In (placed f e) v) o s t
      → Passes c (In e v) o (own_tokens f s) (own_tokens f t)
  in_own e v None s t h = h
  in_own e v (Some k) s t (fits, is_t) = (fits, ap (own_tokens f) is_t ∙ token_filled e (way_put k.role) (Some v) s)

  pub does_own : (x : Element) (s t : Tokens) → Does r (set f x) s t → Does c x (own_tokens f s) (own_tokens f t)
  does_own (Fire i slot) s t (v, x, held, by, is_t) = (
    v,
    x,
    sym (token_own s (end_of i slot) (way_of slot)) ∙ held,
    sym (firing_own i slot s) ∙ by,
    ap (own_tokens f) is_t ∙ fired_own i x v s,
  )
  does_own (Out e v) s t (port, passes) = (
    port_placed f r c is e port,
    out_own e v (contact_at c e) s t
        (subst (λ (o : Option Contact). Passes r (Out (placed f e) v) o s t) (contact_placed f r c is e) passes),
  )
  does_own (In e v) s t (port, passes) = (
    port_placed f r c is e port,
    in_own e v (contact_at c e) s t
        (subst (λ (o : Option Contact). Passes r (In (placed f e) v) o s t) (contact_placed f r c is e) passes),
  )

  pub runs_own : (xs : List Element) (s t : Tokens) → Runs r (set_list f xs) s t → Runs c xs (own_tokens f s) (own_tokens f t)
  runs_own [] s t h = ap (own_tokens f) h
  runs_own (x ∷ xs) s t (u, does, runs) = (own_tokens f u, does_own x s u does, runs_own xs u t runs)

  -- what the plan can do, the whole can
  out_whole : (e : End) (v : ℕ) (o : Option Contact) (s t : Tokens) → Passes c (Out e v) o (own_tokens f s) t
      → (u : Tokens) × Passes r (Out (placed f e) v) o s u
  out_whole e v None s t h = absurd h
  out_whole e v (Some k) s t (held, is_t) =
      (with_token r (placed f e) (way_taken k.role) None s, (token_own s e (way_taken k.role) ∙ held, refl))

  pub quiet_own : (s : Tokens) → IsQuiet r s → IsQuiet c (own_tokens f s)
  quiet_own s quiet = (
    λ i t s' does.
        (let (v, x, held, by, is_t) = does in
        quiet.0 (f.part i) t (fired r (f.part i) x v s) (v, x, token_own s (end_of i t) (way_of t) ∙ held, firing_own i t s ∙ by, refl)),
    λ e v s' does.
        (let (u, passes) = out_whole e v (contact_at c e) s s' does.1 in
        quiet.1 (placed f e) v u (
          placed_port f r c is e does.0,
          subst (λ (o : Option Contact). Passes r (Out (placed f e) v) o s u) (sym (contact_placed f r c is e)) passes,
        )),
  )
