-- Ground ports have no label of an access, and the protocol of ports is theirs.
use Rattle.std.specs.Prelude.{◌≡◌, ◌⊎◌, ℕ, zero, suc, List, [], ◌∷◌, Some, Option, slice_get}
use Rattle.std.proofs.Common.{refl, sym, subst, ap, inl, inr, ◌∙◌}
use Rattle.gos_types.specs.Types.{Type', Com, Exp, Var, Pair, Fun, IsGround}
use Rattle.gos_types.specs.Events.{Event, events}
use Rattle.gos_model.specs.Terms.{Name, Term, Import, Deref, Put, Wait}
use Rattle.gos_model.specs.Typing.{Imports, import_type}
use Rattle.gos_model.specs.Accesses.{IsArrayImport}
use Rattle.gos_model.specs.Labels.{Given, Port, Taken, Label, Emits, IsAnswer, Takes}
use Rattle.gos_model.specs.Protocol.{Allowed, KeepsAfter}
use Rattle.gos_model.specs.ArrayPorts.{AllowedAtArray, KeepsPortsAfter, AreGround, GroundPortsKeep, GroundLabels}

pub ports_keep_after : (i : Imports) (past ls : List Label) → KeepsAfter i past ls → KeepsPortsAfter i past ls
ports_keep_after i past [] h = tt
ports_keep_after i past (l ∷ ls) h = (λ input. inl (h.0 input), ports_keep_after i (l ∷ past) ls h.1)

-- no import is of an array
pub no_array : (i : Imports) → AreGround i → (past : List Label) (p : Port) (n k : ℕ) → AllowedAtArray i past p n k → ⊥
no_array i ground past Given n k h = h
no_array i ground past (Taken x) n k (j, w, is, rest, h) = ground x (Fun (Exp j) (Var w)) is

allowed_one : (i : Imports) → AreGround i → (past : List Label) (p : Port) (n k : ℕ) → Allowed i past p n k ⊎ AllowedAtArray i past p n k → Allowed i past p n k
allowed_one i ground past p n k (inl h) = h
allowed_one i ground past p n k (inr h) = absurd (no_array i ground past p n k h)

ground_keep_after : (i : Imports) → AreGround i → (past ls : List Label) → KeepsPortsAfter i past ls → KeepsAfter i past ls
ground_keep_after i ground past [] h = tt
ground_keep_after i ground past (l ∷ ls) h =
    (λ input. allowed_one i ground past l.port l.event l.value (h.0 input), ground_keep_after i ground (l ∷ past) ls h.1)

pub ground_ports_keep : GroundPortsKeep
ground_ports_keep i ls = (ports_keep_after i [] ls, λ ground. ground_keep_after i ground [] ls)

-- the event of this number, if a type has it
abbrev Has : Type' → ℕ → Type 0
Has ty n = (e : Event) × (slice_get (events ty) n ≡ Some e)

first_event : (ty : Type') → IsGround ty → Has ty 0
first_event Com g = (_, refl)
first_event (Exp w) g = (_, refl)
first_event (Var w) g = (_, refl)
first_event (Pair a b) g = absurd g
first_event (Fun a b) g = absurd g

answer_event : (ty : Type') → IsGround ty → (s k : ℕ) (t : Term) → IsAnswer (Some ty) s k t → Has ty s
answer_event Com g zero k t h = absurd h
answer_event Com g (suc zero) k t h = (_, refl)
answer_event Com g (suc (suc s)) k t h = absurd h
answer_event (Exp w) g zero k t h = absurd h
answer_event (Exp w) g (suc zero) k t h = (_, refl)
answer_event (Exp w) g (suc (suc s)) k t h = absurd h
answer_event (Var w) g zero k t h = absurd h
answer_event (Var w) g (suc zero) k t h = (_, refl)
answer_event (Var w) g (suc (suc zero)) k t h = absurd h
answer_event (Var w) g (suc (suc (suc zero))) k t h = (_, refl)
answer_event (Var w) g (suc (suc (suc (suc s)))) k t h = absurd h
answer_event (Pair a b) g s k t h = absurd g
answer_event (Fun a b) g s k t h = absurd g

module _ (i : Imports) (o : Label) (x : Name) (ty : Type') (is : import_type i x ≡ Some ty) (ground : IsGround ty) (port : o.port ≡ Taken x) where
  same_name : (y : Name) → o.port ≡ Taken y → y ≡ x
  same_name y other = let names : Taken y ≡ Taken x = sym other ∙ port in cc names

  type_of_it : (y : Name) (u : Type') → o.port ≡ Taken y → import_type i y ≡ Some u → u ≡ ty
  type_of_it y u other typed =
      let both : Some u ≡ Some ty = sym typed ∙ (ap (import_type i) (same_name y other) ∙ is) in
      cc both

  at_zero : o.event ≡ 0 → Has ty o.event
  at_zero zeroth = subst (λ (n : ℕ). Has ty n) (sym zeroth) (first_event ty ground)

  no_access : (y : Name) (j w : ℕ) → o.port ≡ Taken y → IsArrayImport i y j w → ⊥
  no_access y j w other array = subst IsGround (sym (type_of_it y (Fun (Exp j) (Var w)) other array)) ground

  emitted : (m t : Term) → Emits i o m t → Has ty o.event
  emitted (Import y) t (inl (typed, label, e)) = at_zero (ap (λ (l : Label). l.event) label)
  emitted (Import y) t (inr (w, typed, label, e)) = at_zero (ap (λ (l : Label). l.event) label)
  emitted (Deref m) t (inl (y, w, name, typed, label, e)) = at_zero (ap (λ (l : Label). l.event) label)
  emitted (Deref m) t (inr (y, at, (j, w, n, array, rest))) = absurd (no_access y j w at array)
  emitted (Put m k) t (inl (y, w, name, typed, label, e)) =
      let kind = type_of_it y (Var w) (ap (λ (l : Label). l.port) label) typed in
      subst (λ (u : Type'). Has u o.event) kind (subst (λ (n : ℕ). Has (Var w) n) (sym (ap (λ (l : Label). l.event) label)) (_, refl))
  emitted (Put m k) t (inr (y, at, (j, w, n, array, rest))) = absurd (no_access y j w at array)
  emitted m t h = absurd h

  took : (m t : Term) → Takes i o m t → Has ty o.event
  took (Wait y s) t (at, event, h) =
      let here : import_type i y ≡ Some ty = ap (import_type i) (same_name y at) ∙ is in
      subst (λ (n : ℕ). Has ty n) (sym event) (answer_event ty ground s o.value t (subst (λ (u : Option Type'). IsAnswer u s o.value t) here h))
  took (Deref m) t (y, at, (j, w, n, p, array, em, rest)) = absurd (no_access y j w at array)
  took (Put m k) t (y, at, (j, w, n, p, array, em, rest)) = absurd (no_access y j w at array)
  took m t h = absurd h

pub ground_labels : GroundLabels
ground_labels i o m t x ty is ground port (inl h) = emitted i o x ty is ground port m t h
ground_labels i o m t x ty is ground port (inr h) = took i o x ty is ground port m t h
