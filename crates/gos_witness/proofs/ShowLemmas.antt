-- Labels at a place, of a port that is no array's: which they are, and what each leaves.
use Rattle.std.proofs.Common.{◌≡◌, ◌⊎◌, ◌^◌, ◌<◌, ◌≤◌, ◌&&◌, ℕ, zero, suc, Bool, true, false, nat_eq, if◌then◌else◌, arith, refl, sym, ap, subst, Option, Some, None, inl, inr, ◌∙◌}
use Rattle.std.specs.Prelude.{MatchOption, IfSome, IfOk, Result, Ok, Err}
use Rattle.std.proofs.lemmas.Bool.{eq-eqb}
use Rattle.std.proofs.lemmas.Option.{same_Some, none-some}
use Rattle.gos_types.specs.Widths.{IsWidth}
use Rattle.gos_types.specs.Types.{Type', Com, Exp, Var, Fun}
use Rattle.gos_netlist.specs.declared.nets.Ground.{Ground}
use Rattle.gos_netlist.specs.declared.nets.Ground.TheVariants as grounds
use Rattle.gos_netlist.specs.Seen.{ground_type}
use Rattle.gos_model.specs.Terms.{Name, Term, Skip, Lit, Import, Deref, Wait, Put}
use Rattle.gos_model.specs.Typing.{Imports, import_type}
use Rattle.gos_model.specs.Accesses.{IsArrayImport}
use Rattle.gos_model.specs.Labels as shown
use Rattle.gos_model.specs.Labels.{Taken, IsAnswer}
use Rattle.gos_witness.specs.declared.labels.Label.{Label}
use Rattle.gos_witness.specs.declared.nodes.Leaf.{Leaf}
use Rattle.gos_witness.specs.declared.nodes.Leaf.TheVariants as leaves
use Rattle.gos_witness.specs.declared.nodes.OnePart.{OnePart}
use Rattle.gos_witness.specs.declared.nodes.OnePart.TheVariants as one
use Rattle.gos_witness.specs.declared.program.ProgramPort.{ProgramPort}
use Rattle.gos_witness.specs.NodeLists.{Tables, Listed, FitsLeaf, leaf_term, one_term}
use Rattle.gos_witness.specs.inner.Rows.{IsPortOf, label_at, Shows, LeafShows, ShowsTo, IsAnswered, event_behind}

no_function : (g : Ground) (a b : Type') → ground_type g ≡ Fun a b → ⊥
no_function grounds.Com a b e = absurd (cc e)
no_function (grounds.Exp w) a b e = absurd (cc e)
no_function (grounds.Var w) a b e = absurd (cc e)

-- the label's port is this one, and of its type
port_name : (p : ProgramPort) (x : Name) → Taken p.name ≡ Taken x → p.name ≡ x
port_name p x e = cc e

port_type : (is : Imports) (p : ProgramPort) (x : Name) (t : Type') → IsPortOf is p → Taken p.name ≡ Taken x → import_type is x ≡ Some t → ground_type p.ground ≡ t
port_type is p x t port e ty = same_Some (ground_type p.ground) t (sym port ∙ ap (import_type is) (port_name p x e) ∙ ty)

no_array : (is : Imports) (p : ProgramPort) (x : Name) (i w : ℕ) → IsPortOf is p → Taken p.name ≡ Taken x → IsArrayImport is x i w → ⊥
no_array is p x i w port e array = no_function p.ground (Exp i) (Var w) (port_type is p x (Fun (Exp i) (Var w)) port e array)

-- a variable is read
pub record Reads (p : ProgramPort) (o : Label) (m t : Term) : Type 0 where
  pub width : ℕ
  pub import : m ≡ Import p.name
  pub type : ground_type p.ground ≡ Var width
  pub place : o.place ≡ 0
  pub value : o.value ≡ 0
  pub term : t ≡ Wait p.name 1

pub read_is : (is : Imports) (p : ProgramPort) (o : Label) (m t : Term) → IsPortOf is p → Shows is (label_at p o) (Deref m) t → Reads p o m t
read_is is p o m t port (inl (inl (x, w, em, ty, eo, et))) =
    let same = ap (λ (q : shown.Label). q.port) eo in
    let name = port_name p x same in
    record {
      width = w;
      import = em ∙ ap Import (sym name);
      type = port_type is p x (Var w) port same ty;
      place = ap (λ (q : shown.Label). q.event) eo;
      value = ap (λ (q : shown.Label). q.value) eo;
      term = et ∙ ap (λ (z : Name). Wait z 1) (sym name);
    }
read_is is p o m t port (inl (inr (x, same, (i, w, n, array, rest)))) = absurd (no_array is p x i w port same array)
read_is is p o m t port (inr (x, same, (i, w, n, j, array, em, rest))) = absurd (no_array is p x i w port same array)

pub read_shows : (is : Imports) (p : ProgramPort) (o : Label) (w : ℕ) → IsPortOf is p → ground_type p.ground ≡ Var w → o.place ≡ 0 → o.value ≡ 0
    → Shows is (label_at p o) (Deref (Import p.name)) (Wait p.name 1)
read_shows is p o w port ty place value =
    inl (inl (p.name, w, refl, port ∙ ap (λ (t : Type'). Some t) ty, (λ i. shown.taken p.name (place i) (value i)), refl))

-- a variable is written
pub record Writes (p : ProgramPort) (o : Label) (k : ℕ) (m t : Term) : Type 0 where
  pub width : ℕ
  pub import : m ≡ Import p.name
  pub type : ground_type p.ground ≡ Var width
  pub place : o.place ≡ 2
  pub value : o.value ≡ k
  pub term : t ≡ Wait p.name 3

pub write_is : (is : Imports) (p : ProgramPort) (o : Label) (k : ℕ) (m t : Term) → IsPortOf is p → Shows is (label_at p o) (Put m k) t → Writes p o k m t
write_is is p o k m t port (inl (inl (x, w, em, ty, eo, et))) =
    let same = ap (λ (q : shown.Label). q.port) eo in
    let name = port_name p x same in
    record {
      width = w;
      import = em ∙ ap Import (sym name);
      type = port_type is p x (Var w) port same ty;
      place = ap (λ (q : shown.Label). q.event) eo;
      value = ap (λ (q : shown.Label). q.value) eo;
      term = et ∙ ap (λ (z : Name). Wait z 3) (sym name);
    }
write_is is p o k m t port (inl (inr (x, same, (i, w, n, array, rest)))) = absurd (no_array is p x i w port same array)
write_is is p o k m t port (inr (x, same, (i, w, n, j, array, em, rest))) = absurd (no_array is p x i w port same array)

pub write_shows : (is : Imports) (p : ProgramPort) (o : Label) (k w : ℕ) → IsPortOf is p → ground_type p.ground ≡ Var w → o.place ≡ 2 → o.value ≡ k
    → Shows is (label_at p o) (Put (Import p.name) k) (Wait p.name 3)
write_shows is p o k w port ty place value =
    inl (inl (p.name, w, refl, port ∙ ap (λ (t : Type'). Some t) ty, (λ i. shown.taken p.name (place i) (value i)), refl))

-- a command is run, or an expression asked
pub record Asks (p : ProgramPort) (o : Label) (x : Name) (t : Term) : Type 0 where
  pub name : p.name ≡ x
  pub type : (ground_type p.ground ≡ Com) ⊎ ((w : ℕ) × (ground_type p.ground ≡ Exp w))
  pub place : o.place ≡ 0
  pub value : o.value ≡ 0
  pub term : t ≡ Wait x 1

-- an answer is taken
pub record Answered (p : ProgramPort) (o : Label) (x : Name) (s : ℕ) (t : Term) : Type 0 where
  pub name : p.name ≡ x
  pub event : o.place ≡ s
  pub answer : IsAnswer (Some (ground_type p.ground)) s o.value t

pub answer_is : (is : Imports) (p : ProgramPort) (o : Label) (x : Name) (s : ℕ) (t : Term) → IsPortOf is p → Shows is (label_at p o) (Wait x s) t → Answered p o x s t
answer_is is p o x s t port (inr (same, event, h)) =
    let name = port_name p x same in
    record {
      name = name;
      event = event;
      answer = subst (λ (ty : Option Type'). IsAnswer ty s o.value t) (sym (ap (import_type is) name) ∙ port) h;
    }
answer_is is p o x s t port (inl h) = absurd h

pub answer_shows : (is : Imports) (p : ProgramPort) (o : Label) (s : ℕ) (t : Term) → IsPortOf is p → o.place ≡ s → IsAnswer (Some (ground_type p.ground)) s o.value t
    → Shows is (label_at p o) (Wait p.name s) t
answer_shows is p o s t port event h = inr (refl, event, subst (λ (ty : Option Type'). IsAnswer ty s o.value t) (sym port) h)

-- what a label needs of a form of one part, and where it leads
abbrev pub OneNeeds : ProgramPort → Label → OnePart → Term → Term → Type 0
OneNeeds p o one.Deref m t = Reads p o m t
OneNeeds p o (one.Put k) m t = Writes p o k m t
OneNeeds p o f m t = ⊥

pub one_needs : (is : Imports) (p : ProgramPort) (o : Label) (a : Tables) (f : OnePart) (m t : Term) → IsPortOf is p → Shows is (label_at p o) (one_term a f m) t
    → OneNeeds p o f m t
one_needs is p o a one.Deref m t port h = read_is is p o m t port h
one_needs is p o a (one.Put k) m t port h = write_is is p o k m t port h
one_needs is p o a (one.Lam u) m t port (inl h) = h
one_needs is p o a (one.New w) m t port (inl h) = h
one_needs is p o a (one.NewArray n w) m t port (inl h) = h
one_needs is p o a one.Fst m t port (inl h) = h
one_needs is p o a one.Snd m t port (inl h) = h
one_needs is p o a one.Not m t port (inl h) = h
one_needs is p o a (one.Scope l) m t port (inl h) = h
one_needs is p o a (one.Held k op) m t port (inl h) = h
one_needs is p o a (one.Lam u) m t port (inr h) = h
one_needs is p o a (one.New w) m t port (inr h) = h
one_needs is p o a (one.NewArray n w) m t port (inr h) = h
one_needs is p o a one.Fst m t port (inr h) = h
one_needs is p o a one.Snd m t port (inr h) = h
one_needs is p o a one.Not m t port (inr h) = h
one_needs is p o a (one.Scope l) m t port (inr h) = h
one_needs is p o a (one.Held k op) m t port (inr h) = h

-- answers of a command, of an expression, and of the two requests of a variable
answer_com : (s k : ℕ) (t : Term) → IsAnswer (Some Com) s k t → (s ≡ 1) × (k ≡ 0) × (t ≡ Skip)
answer_com (suc zero) k t h = (refl, h.0, h.1)
answer_com zero k t h = absurd h
answer_com (suc (suc s)) k t h = absurd h

answer_exp : (w s k : ℕ) (t : Term) → IsAnswer (Some (Exp w)) s k t → (s ≡ 1) × (k < 2 ^ w) × (t ≡ Lit k w)
answer_exp w (suc zero) k t h = (refl, h.0, h.1)
answer_exp w zero k t h = absurd h
answer_exp w (suc (suc s)) k t h = absurd h

answer_var : (w s k : ℕ) (t : Term) → IsAnswer (Some (Var w)) s k t → ((s ≡ 1) × (k < 2 ^ w) × (t ≡ Lit k w)) ⊎ ((s ≡ 3) × (k ≡ 0) × (t ≡ Skip))
answer_var w (suc zero) k t h = inl (refl, h.0, h.1)
answer_var w (suc (suc (suc zero))) k t h = inr (refl, h.0, h.1)
answer_var w zero k t h = absurd h
answer_var w (suc (suc zero)) k t h = absurd h
answer_var w (suc (suc (suc (suc s)))) k t h = absurd h

narrow_width : (w : ℕ) → IsWidth w → w ≤ 64
narrow_width w h = omega (arith, h.1)

pub answer_of_com : (a : Tables) (s k : ℕ) (r : Option Leaf) → MatchOption r (s ≡ 1 → k ≡ 0 → ⊥) (λ leaf. (s ≡ 1) × (k ≡ 0) × (leaf ≡ leaves.Skip)) → IsAnswered Com a s k r
answer_of_com a s k None never = λ t h. let (e, f, g) = answer_com s k t h in never e f
answer_of_com a s k (Some leaf) (e, f, g) =
    subst (λ (x : Leaf). IsAnswer (Some Com) s k (leaf_term a x) × FitsLeaf a x) (sym g) (subst (λ (n : ℕ). IsAnswer (Some Com) n k Skip) (sym e) (f, refl), tt)

pub answer_of_exp : (a : Tables) (w s k : ℕ) (r : Option Leaf) → IsWidth w → MatchOption r (s ≡ 1 → k < 2 ^ w → ⊥) (λ leaf. (s ≡ 1) × (k < 2 ^ w) × (leaf ≡ leaves.Lit k w))
    → IsAnswered (Exp w) a s k r
answer_of_exp a w s k None width never = λ t h. let (e, f, g) = answer_exp w s k t h in never e f
answer_of_exp a w s k (Some leaf) width (e, f, g) =
    subst (λ (x : Leaf). IsAnswer (Some (Exp w)) s k (leaf_term a x) × FitsLeaf a x) (sym g)
    (subst (λ (n : ℕ). IsAnswer (Some (Exp w)) n k (Lit k w)) (sym e) (f, refl), narrow_width w width)

pub answer_of_read : (a : Tables) (w s k : ℕ) (r : Option Leaf) → IsWidth w → s ≡ 1 → MatchOption r (s ≡ 1 → k < 2 ^ w → ⊥) (λ leaf. (s ≡ 1) × (k < 2 ^ w) × (leaf ≡ leaves.Lit k w))
    → IsAnswered (Var w) a s k r
answer_of_read a w s k None width one never = λ t h. by t (answer_var w s k t h)
  where
    by : (t : Term) → ((s ≡ 1) × (k < 2 ^ w) × (t ≡ Lit k w)) ⊎ ((s ≡ 3) × (k ≡ 0) × (t ≡ Skip)) → ⊥
    by t (inl (e, f, g)) = never e f
    by t (inr (e, f, g)) = absurd (omega (arith, one, e))
answer_of_read a w s k (Some leaf) width one (e, f, g) =
    subst (λ (x : Leaf). IsAnswer (Some (Var w)) s k (leaf_term a x) × FitsLeaf a x) (sym g)
    (subst (λ (n : ℕ). IsAnswer (Some (Var w)) n k (Lit k w)) (sym e) (f, refl), narrow_width w width)

pub answer_of_write : (a : Tables) (w s k : ℕ) (r : Option Leaf) → (s ≡ 1 → ⊥) → MatchOption r (s ≡ 3 → k ≡ 0 → ⊥) (λ leaf. (s ≡ 3) × (k ≡ 0) × (leaf ≡ leaves.Skip))
    → IsAnswered (Var w) a s k r
answer_of_write a w s k None other never = λ t h. by t (answer_var w s k t h)
  where
    by : (t : Term) → ((s ≡ 1) × (k < 2 ^ w) × (t ≡ Lit k w)) ⊎ ((s ≡ 3) × (k ≡ 0) × (t ≡ Skip)) → ⊥
    by t (inl (e, f, g)) = other e
    by t (inr (e, f, g)) = never e f
answer_of_write a w s k (Some leaf) other (e, f, g) =
    subst (λ (x : Leaf). IsAnswer (Some (Var w)) s k (leaf_term a x) × FitsLeaf a x) (sym g) (subst (λ (n : ℕ). IsAnswer (Some (Var w)) n k Skip) (sym e) (f, refl), tt)

-- what a wait becomes
pub answered_none : (is : Imports) (p : ProgramPort) (o : Label) (a : Tables) (x : Name) (s : ℕ) (t : Term) → IsPortOf is p → (o.place ≡ s → p.name ≡ x → ⊥)
    → Shows is (label_at p o) (Wait x s) t → ⊥
answered_none is p o a x s t port never h = let known = answer_is is p o x s t port h in never known.event known.name

pub answered_shows : (is : Imports) (p : ProgramPort) (o : Label) (a : Tables) (x : Name) (s : ℕ) (r : Option Leaf) → IsPortOf is p → o.place ≡ s → p.name ≡ x
    → IsAnswered (ground_type p.ground) a s o.value r → LeafShows a is (label_at p o) (Wait x s) r
answered_shows is p o a x s None port event name never = λ t h. never t (answer_is is p o x s t port h).answer
answered_shows is p o a x s (Some leaf) port event name h =
    subst (λ (y : Name). Shows is (label_at p o) (Wait y s) (leaf_term a leaf)) name (answer_shows is p o s (leaf_term a leaf) port event h.0)

pub answered_fits : (ty : Type') (a : Tables) (s k : ℕ) (r : Option Leaf) → IsAnswered ty a s k r → IfSome r (FitsLeaf a)
answered_fits ty a s k None h = tt
answered_fits ty a s k (Some leaf) h = h.1

-- a variable that is read or written, by the event that is waited for
read_event : (o : Label) → o.place ≡ 0 → o.value ≡ 0 → event_behind o one.Deref ≡ Some 1
read_event o e f = let a = eq-eqb o.place 0 e in let b = eq-eqb o.value 0 f in rw a (rw b refl)

write_event : (o : Label) (k : ℕ) → o.place ≡ 2 → o.value ≡ k → event_behind o (one.Put k) ≡ Some 3
write_event o k e f = let a = eq-eqb o.place 2 e in let b = eq-eqb o.value k f in rw a (rw b refl)

pub one_stuck : (is : Imports) (p : ProgramPort) (o : Label) (a : Tables) (f : OnePart) (m t : Term) → IsPortOf is p → event_behind o f ≡ None
    → Shows is (label_at p o) (one_term a f m) t → ⊥
one_stuck is p o a one.Deref m t port none h =
    let known = read_is is p o m t port h in none-some 1 (sym none ∙ read_event o known.place known.value)
one_stuck is p o a (one.Put k) m t port none h =
    let known = write_is is p o k m t port h in none-some 3 (sym none ∙ write_event o k known.place known.value)
one_stuck is p o a (one.Lam u) m t port none h = one_needs is p o a (one.Lam u) m t port h
one_stuck is p o a (one.New w) m t port none h = one_needs is p o a (one.New w) m t port h
one_stuck is p o a (one.NewArray n w) m t port none h = one_needs is p o a (one.NewArray n w) m t port h
one_stuck is p o a one.Fst m t port none h = one_needs is p o a one.Fst m t port h
one_stuck is p o a one.Snd m t port none h = one_needs is p o a one.Snd m t port h
one_stuck is p o a one.Not m t port none h = one_needs is p o a one.Not m t port h
one_stuck is p o a (one.Scope l) m t port none h = one_needs is p o a (one.Scope l) m t port h
one_stuck is p o a (one.Held k op) m t port none h = one_needs is p o a (one.Held k op) m t port h

equal_of : (n m : ℕ) → nat_eq n m ≡ true → n ≡ m
equal_of n m e = grind (arith, e)

both_hold : (b c : Bool) (k e : ℕ) → (if b && c then Some k else None) ≡ Some e → (b ≡ true) × (c ≡ true) × (e ≡ k)
both_hold true true k e h = let same : k ≡ e = cc h in (refl, refl, sym same)
both_hold true false k e h = absurd (none-some e h)
both_hold false c k e h = absurd (none-some e h)

pub event_shows : (is : Imports) (p : ProgramPort) (o : Label) (a : Tables) (f : OnePart) (m t : Term) (x : Name) (e w : ℕ) → IsPortOf is p → ground_type p.ground ≡ Var w
    → event_behind o f ≡ Some e → m ≡ Import x → x ≡ p.name → t ≡ Wait x e → Shows is (label_at p o) (one_term a f m) t
event_shows is p o a one.Deref m t x e w port ty is_e im name wait =
    let (place, value, one) = both_hold (nat_eq o.place 0) (nat_eq o.value 0) 1 e is_e in
    let shows = read_shows is p o w port ty (equal_of o.place 0 place) (equal_of o.value 0 value) in
    let from : m ≡ Import p.name = im ∙ ap Import name in
    let to : t ≡ Wait p.name 1 = wait ∙ (λ i. Wait (name i) (one i)) in
    subst (λ (q : Term). Shows is (label_at p o) (Deref q) t) (sym from) (subst (λ (q : Term). Shows is (label_at p o) (Deref (Import p.name)) q) (sym to) shows)
event_shows is p o a (one.Put k) m t x e w port ty is_e im name wait =
    let (place, value, one) = both_hold (nat_eq o.place 2) (nat_eq o.value k) 3 e is_e in
    let shows = write_shows is p o k w port ty (equal_of o.place 2 place) (equal_of o.value k value) in
    let from : m ≡ Import p.name = im ∙ ap Import name in
    let to : t ≡ Wait p.name 3 = wait ∙ (λ i. Wait (name i) (one i)) in
    subst (λ (q : Term). Shows is (label_at p o) (Put q k) t) (sym from) (subst (λ (q : Term). Shows is (label_at p o) (Put (Import p.name) k) q) (sym to) shows)
event_shows is p o a (one.Lam u) m t x e w port ty is_e im name wait = absurd (none-some e is_e)
event_shows is p o a (one.New v) m t x e w port ty is_e im name wait = absurd (none-some e is_e)
event_shows is p o a (one.NewArray n v) m t x e w port ty is_e im name wait = absurd (none-some e is_e)
event_shows is p o a one.Fst m t x e w port ty is_e im name wait = absurd (none-some e is_e)
event_shows is p o a one.Snd m t x e w port ty is_e im name wait = absurd (none-some e is_e)
event_shows is p o a one.Not m t x e w port ty is_e im name wait = absurd (none-some e is_e)
event_shows is p o a (one.Scope l) m t x e w port ty is_e im name wait = absurd (none-some e is_e)
event_shows is p o a (one.Held k op) m t x e w port ty is_e im name wait = absurd (none-some e is_e)

-- what is shown by its port is shown by its number
pub shown_at : {E : Type 0} (l : Listed) (is : Imports) (p : ProgramPort) (o : Label) (n : shown.Label) (m u : Term) (r : Result (Option ℕ) E) → IsPortOf is p
    → n ≡ label_at p o → m ≡ u → IfOk r (λ next. (js : Imports) → IsPortOf js p → ShowsTo l js (label_at p o) u next) → IfOk r (ShowsTo l is n m)
shown_at l is p o n m u (Ok next) port label term h =
    subst (λ (k : shown.Label). ShowsTo l is k m next) (sym label) (subst (λ (q : Term). ShowsTo l is (label_at p o) q next) (sym term) (h is port))
shown_at l is p o n m u (Err x) port label term h = tt
