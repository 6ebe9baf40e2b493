-- What an access does where its own plan does something, and what the labels so far tell of how it stands.
use Rattle.std.specs.Prelude.{◌≡◌, ◌≢◌, ◌⊎◌, ℕ, suc, Bool, true, false, ◌&&◌, ◌||◌, not, IsTrue, List, [], ◌∷◌, ◌++◌, nat_eq, if◌then◌else◌}
use Rattle.std.specs.Str.{bytes_eq}
use Rattle.std.proofs.Common.{refl, sym, ◌∙◌, ap, subst, arith, inl, inr}
use Rattle.std.proofs.lemmas.Bool.Decides.{nat_tests}
use Rattle.gos_types.specs.Events.{Request, Answer}
use Rattle.gos_model.specs.Terms as terms
use Rattle.gos_model.specs.Terms.{Name, Term, Import, App, Lit}
use Rattle.gos_model.specs.Stores.{Store}
use Rattle.gos_model.specs.Accesses.{IsArrayImport}
use Rattle.gos_model.specs.Labels.{Taken, Label, given, taken, is_answer}
use Rattle.gos_model.specs.Protocol.{is_open, shake_of, same_port}
use Rattle.gos_model.specs.ArrayPorts.{is_asked}
use Rattle.gos_model.specs.Moves.{Program, Config, Idle, Running, Act, Computing, Showing, Moves, labels}
use Rattle.gos_plan.specs.Firing.{Slot}
use Rattle.gos_plan.specs.Plans.{PartEnd, ImportEnd, ResultEnd}
use Rattle.gos_plan.specs.Tokens.{Element, Fire, Out, In}
use Rattle.gos_realises.specs.realises.Matched.{event_number}
use Rattle.gos_supplies.specs.arrays.Accesses.{Access, Read, Write, accessing, accessed, waiting, asks_with, ended}
use Rattle.gos_supplies.proofs.arrays.IndexLemmas.{read_ends, write_ends}
use Rattle.gos_supplies.proofs.arrays.IndexLemmas as programs
use Rattle.gos_supplies.proofs.arrays.LabelLemmas.{name_itself}
use Rattle.gos_supplies.proofs.arrays.ElementLemmas.{Own, Index}
use Rattle.gos_supplies.proofs.arrays.StandLemmas.{Stand, Resting, Begun, Ready, Away, Ended, is_away, shake, other_shake, begun, Ends, Goes, stays, runs, computes, asks, ends, answers}

pub running_apart : (m : Term) (s : Store) → Running m s ≡ Idle → ⊥
running_apart m s e = cc e

pub or_left : (b c : Bool) → (b || c) ≡ true → c ≡ false → b ≡ true
or_left true c up shut = refl
or_left false c up shut = absurd (let no : true ≡ false = sym up ∙ shut in cc no)

or_right : (b c : Bool) → (b || c) ≡ true → b ≡ false → c ≡ true
or_right true c up shut = absurd (cc shut)
or_right false c up shut = up

pub away_is : (m : Stand) → is_away m ≡ true → m ≡ Away
away_is Resting e = absurd (cc e)
away_is Begun e = absurd (cc e)
away_is Ready e = absurd (cc e)
away_is Away e = refl
away_is (Ended v) e = absurd (cc e)

pub own_is : (y z : Element) → Own y ≡ Own z → y ≡ z
own_is y z e = cc e

pub index_is : (y z : Element) → Index y ≡ Index z → y ≡ z
index_is y z e = cc e

-- the input that ends it
abbrev pub IsEnd : Element → Type 0
IsEnd (In (ImportEnd j h) v) = Unit {0}
IsEnd y = ⊥

-- what the whole shows where the access' own plan makes an element
abbrev pub raised : Name → Element → List Label
raised x (Fire j t) = []
raised x (Out (PartEnd j h) v) = []
raised x (Out (ImportEnd j h) v) = taken x (event_number Request (suc h)) v ∷ []
raised x (Out (ResultEnd h) v) = given (event_number Answer h) v ∷ []
raised x (In (PartEnd j h) v) = []
raised x (In (ImportEnd j h) v) = taken x (event_number Answer (suc h)) v ∷ []
raised x (In (ResultEnd h) v) = given (event_number Request h) v ∷ []

pub ends_away : (a : Access) (w : ℕ) (y : Element) (m n : Stand) → Goes a w y m n → m ≡ Away → IsEnd y
ends_away a w _ _ _ (stays j t m still) e = absurd (let no : true ≡ false = sym (ap is_away e) ∙ still in cc no)
ends_away a w _ _ _ runs e = absurd (cc e)
ends_away a w _ _ _ (computes j t write) e = absurd (cc e)
ends_away a w _ _ _ asks e = absurd (cc e)
ends_away a w _ _ _ (ends v some) e = tt
ends_away a w _ _ _ (answers v some) e = absurd (cc e)

module _ (x : Name) where
  itself : bytes_eq x x ≡ true
  itself = name_itself x

  -- what a label of the access leaves asked and open
  pub asked_same : (e v : ℕ) (past : List Label) → nat_eq (shake_of e) 0 ≡ false → is_asked (taken x e v ∷ past) x ≡ is_asked past x
  asked_same e v past other =
      ap (λ (b : Bool). if b && nat_eq (shake_of e) 0 then is_answer e else is_asked past x) itself
      ∙ ap (λ (b : Bool). if b then is_answer e else is_asked past x) other

  pub asked_then : (e v : ℕ) (past : List Label) → nat_eq (shake_of e) 0 ≡ true → is_asked (taken x e v ∷ past) x ≡ is_answer e
  asked_then e v past here =
      ap (λ (b : Bool). if b && nat_eq (shake_of e) 0 then is_answer e else is_asked past x) itself
      ∙ ap (λ (b : Bool). if b then is_answer e else is_asked past x) here

  open_same : (e v h : ℕ) (past : List Label) → nat_eq (shake_of e) h ≡ false → is_open (taken x e v ∷ past) (Taken x) h ≡ is_open past (Taken x) h
  open_same e v h past other =
      ap (λ (b : Bool). if b && nat_eq (shake_of e) h then not (is_answer e) else is_open past (Taken x) h) itself
      ∙ ap (λ (b : Bool). if b then not (is_answer e) else is_open past (Taken x) h) other

  open_then : (e v h : ℕ) (past : List Label) → nat_eq (shake_of e) h ≡ true → is_open (taken x e v ∷ past) (Taken x) h ≡ not (is_answer e)
  open_then e v h past here =
      ap (λ (b : Bool). if b && nat_eq (shake_of e) h then not (is_answer e) else is_open past (Taken x) h) itself
      ∙ ap (λ (b : Bool). if b then not (is_answer e) else is_open past (Taken x) h) here

-- How the labels so far tell where it stands: whether the access is open, and the other one is not.
pub record Tells (a : Access) (x : Name) (past : List Label) (m : Stand) : Type 0 where
  pub here : is_open past (Taken x) (suc (shake a)) ≡ is_away m
  pub other : is_open past (Taken x) (suc (other_shake a)) ≡ false

pub record Later (a : Access) (x : Name) (past : List Label) (y : Element) (n : Stand) : Type 0 where
  pub tells : Tells a x (raised x y ++ past) n
  pub asked : is_asked (raised x y ++ past) x ≡ is_asked past x

begun_not_away : (a : Access) → false ≡ is_away (begun a)
begun_not_away Read = refl
begun_not_away (Write k) = refl

asks_later : (a : Access) (x : Name) (past : List Label) → Tells a x past Ready → Later a x past (Out (ImportEnd 0 (shake a)) (asks_with a)) Away
asks_later Read x past so =
    record {
      tells = record { here = open_then x 2 0 1 past refl; other = open_same x 2 0 2 past refl ∙ so.other };
      asked = asked_same x 2 0 past refl;
    }
asks_later (Write k) x past so =
    record {
      tells = record { here = open_then x 4 k 2 past refl; other = open_same x 4 k 1 past refl ∙ so.other };
      asked = asked_same x 4 k past refl;
    }

ends_later : (a : Access) (x : Name) (v : ℕ) (past : List Label) → Tells a x past Away → Later a x past (In (ImportEnd 0 (shake a)) v) (Ended v)
ends_later Read x v past so =
    record {
      tells = record { here = open_then x 3 v 1 past refl; other = open_same x 3 v 2 past refl ∙ so.other };
      asked = asked_same x 3 v past refl;
    }
ends_later (Write k) x v past so =
    record {
      tells = record { here = open_then x 5 v 2 past refl; other = open_same x 5 v 1 past refl ∙ so.other };
      asked = asked_same x 5 v past refl;
    }

pub later : (a : Access) (w : ℕ) (x : Name) (y : Element) (m n : Stand) (past : List Label) → Goes a w y m n → Tells a x past m → Later a x past y n
later a w x _ _ _ past (stays j t m still) so = record { tells = so; asked = refl }
later a w x _ _ _ past runs so =
    record { tells = record { here = so.here ∙ begun_not_away a; other = so.other }; asked = refl }
later a w x _ _ _ past (computes j t write) so = record { tells = record { here = so.here; other = so.other }; asked = refl }
later a w x _ _ _ past asks so = asks_later a x past so
later a w x _ _ _ past (ends v some) so = ends_later a x v past so
later a w x _ _ _ past (answers v some) so = record { tells = record { here = so.here; other = so.other }; asked = refl }

-- the array's asking and its being told leave the access open
pub index_tells : (a : Access) (x : Name) (e v : ℕ) (past : List Label) (m : Stand) → nat_eq (shake_of e) 0 ≡ true → Tells a x past m → Tells a x (taken x e v ∷ past) m
index_tells Read x e v past m none so =
    record { here = open_same x e v 1 past (apart 1 refl) ∙ so.here; other = open_same x e v 2 past (apart 2 refl) ∙ so.other }
  where
    apart : (h : ℕ) → nat_eq 0 h ≡ false → nat_eq (shake_of e) h ≡ false
    apart h other = let first : shake_of e ≡ 0 = grind (arith, nat_tests, none) in ap (λ (n : ℕ). nat_eq n h) first ∙ other
index_tells (Write k) x e v past m none so =
    record { here = open_same x e v 2 past (apart 2 refl) ∙ so.here; other = open_same x e v 1 past (apart 1 refl) ∙ so.other }
  where
    apart : (h : ℕ) → nat_eq 0 h ≡ false → nat_eq (shake_of e) h ≡ false
    apart h other = let first : shake_of e ≡ 0 = grind (arith, nat_tests, none) in ap (λ (n : ℕ). nat_eq n h) first ∙ other

-- labels of other ports
pub other_port_tells : (a : Access) (x : Name) (l : Label) (past : List Label) (m : Stand) → same_port l.port (Taken x) ≡ false → Tells a x past m → Tells a x (l ∷ past) m
other_port_tells a x l past m other so =
    record { here = kept (suc (shake a)) ∙ so.here; other = kept (suc (other_shake a)) ∙ so.other }
  where
    kept : (h : ℕ) → is_open (l ∷ past) (Taken x) h ≡ is_open past (Taken x) h
    kept h = ap (λ (b : Bool). if b && nat_eq (shake_of l.event) h then not (is_answer l.event) else is_open past (Taken x) h) other

pub other_port_asked : (x : Name) (l : Label) (past : List Label) → same_port l.port (Taken x) ≡ false → is_asked (l ∷ past) x ≡ is_asked past x
other_port_asked x l past other =
    ap (λ (b : Bool). if b && nat_eq (shake_of l.event) 0 then is_answer l.event else is_asked past x) other

-- where the access is open it stands away
pub away_told : (a : Access) (x : Name) (past : List Label) (m : Stand) → Tells a x past m → IsTrue (is_open past (Taken x) 1 || is_open past (Taken x) 2) → m ≡ Away
away_told Read x past m so up = away_is m (sym so.here ∙ or_left (is_open past (Taken x) 1) (is_open past (Taken x) 2) up so.other)
away_told (Write k) x past m so up = away_is m (sym so.here ∙ or_right (is_open past (Taken x) 1) (is_open past (Taken x) 2) up so.other)

-- The program of an access, as it stands, and what it does where its own plan does something.
module _ (a : Access) (i w : ℕ) (x : Name) (n : Term) where
  abbrev pub config_of : Term → Stand → Config
  config_of j Resting = Idle
  config_of j Begun = Running (accessing a w (App (Import x) n)) []
  config_of j Ready = Running (accessed a (App (Import x) n)) []
  config_of j Away = Running (waiting a x n j) []
  config_of j (Ended v) = Running (ended a w v) []

  not_away : (j k : Term) (m : Stand) → is_away m ≡ false → config_of j m ≡ config_of k m
  not_away j k Resting still = refl
  not_away j k Begun still = refl
  not_away j k Ready still = refl
  not_away j k Away still = absurd (cc still)
  not_away j k (Ended v) still = refl

  pub resting_is : (j : Term) (m : Stand) → config_of j m ≡ Idle → m ≡ Resting
  resting_is j Resting e = refl
  resting_is j Begun e = absurd (running_apart (accessing a w (App (Import x) n)) [] e)
  resting_is j Ready e = absurd (running_apart (accessed a (App (Import x) n)) [] e)
  resting_is j Away e = absurd (running_apart (waiting a x n j) [] e)
  resting_is j (Ended v) e = absurd (running_apart (ended a w v) [] e)

module _ (i w : ℕ) (x : Name) (n : Term) (g : Program) (array : IsArrayImport g.imports x i w) where
  -- so many moves, and none only where it stands as before
  pub record Done (a : Access) (y : Element) (j : Term) (m k : Stand) : Type 0 where
    pub acts : List Act
    pub moves : Moves g acts (config_of a i w x n j m) (config_of a i w x n n k)
    pub shown : labels acts ≡ raised x y
    pub some : (acts ≢ []) ⊎ ((acts ≡ []) × (m ≡ k))

  no_acts : (o : Act) → o ∷ [] ≡ [] → ⊥
  no_acts o e = cc e

  runs_done : (a : Access) (j : Term) → g.body ≡ accessing a w (App (Import x) n) → Done a (In (ResultEnd 0) 0) j Resting (begun a)
  runs_done Read j body =
      record {
        acts = Showing (given 0 0) ∷ [];
        moves = (Running g.body [], (refl, refl), ap (λ (z : Term). Running z []) body);
        shown = refl;
        some = inl (no_acts (Showing (given 0 0)));
      }
  runs_done (Write l) j body =
      record {
        acts = Showing (given 0 0) ∷ [];
        moves = (Running g.body [], (refl, refl), ap (λ (z : Term). Running z []) body);
        shown = refl;
        some = inl (no_acts (Showing (given 0 0)));
      }

  computes_done : (a : Access) (j : Term) (k : ℕ) (t : Slot) → begun a ≡ Begun → Done a (Fire k t) j Begun Ready
  computes_done Read j k t write = absurd (cc write)
  computes_done (Write l) j k t write =
      record {
        acts = Computing ∷ [];
        moves = (
          Running (terms.Put (App (Import x) n) l) [],
          (0, terms.Assign (App (Import x) n) (Lit l w), refl, inl (l, w, refl, refl, refl)),
          refl,
        );
        shown = refl;
        some = inl (no_acts Computing);
      }

  asks_done : (a : Access) (j : Term) → Done a (Out (ImportEnd 0 (shake a)) (asks_with a)) j Ready Away
  asks_done Read j =
      record {
        acts = Showing (taken x 2 0) ∷ [];
        moves = (Running (waiting Read x n n) [], programs.asks g x i w array Read n [], refl);
        shown = refl;
        some = inl (no_acts (Showing (taken x 2 0)));
      }
  asks_done (Write l) j =
      record {
        acts = Showing (taken x 4 l) ∷ [];
        moves = (Running (waiting (Write l) x n n) [], programs.asks g x i w array (Write l) n [], refl);
        shown = refl;
        some = inl (no_acts (Showing (taken x 4 l)));
      }

  ends_done : (a : Access) (j : Term) (v : ℕ) → Ends a w v → Done a (In (ImportEnd 0 (shake a)) v) j Away (Ended v)
  ends_done Read j v small =
      record {
        acts = Showing (taken x 3 v) ∷ [];
        moves = (Running (ended Read w v) [], read_ends g x i w array n j v [] small, refl);
        shown = refl;
        some = inl (no_acts (Showing (taken x 3 v)));
      }
  ends_done (Write l) j v none =
      subst (λ (z : ℕ). Done (Write l) (In (ImportEnd 0 1) z) j Away (Ended z)) (sym none)
      (record {
        acts = Showing (taken x 5 0) ∷ [];
        moves = (Running (ended (Write l) w 0) [], write_ends g x i w array n j l [], refl);
        shown = refl;
        some = inl (no_acts (Showing (taken x 5 0)));
      })

  answers_done : (a : Access) (j : Term) (v : ℕ) → Ends a w v → Done a (Out (ResultEnd 0) v) j (Ended v) Resting
  answers_done Read j v small =
      record {
        acts = Showing (given 1 v) ∷ [];
        moves = (Idle, (0, Lit v w, refl, inr (v, w, refl, refl)), refl);
        shown = refl;
        some = inl (no_acts (Showing (given 1 v)));
      }
  answers_done (Write l) j v none =
      subst (λ (z : ℕ). Done (Write l) (Out (ResultEnd 0) z) j (Ended z) Resting) (sym none)
      (record {
        acts = Showing (given 1 0) ∷ [];
        moves = (Idle, (0, terms.Skip, refl, inl (refl, refl)), refl);
        shown = refl;
        some = inl (no_acts (Showing (given 1 0)));
      })

  pub done : (a : Access) (y : Element) (j : Term) (m k : Stand) → g.body ≡ accessing a w (App (Import x) n) → Goes a w y m k → Done a y j m k
  done a _ j _ _ body (stays l t m still) =
      record { acts = []; moves = not_away a i w x n j n m still; shown = refl; some = inr (refl, refl) }
  done a _ j _ _ body runs = runs_done a j body
  done a _ j _ _ body (computes l t write) = computes_done a j l t write
  done a _ j _ _ body asks = asks_done a j
  done a _ j _ _ body (ends v some) = ends_done a j v some
  done a _ j _ _ body (answers v some) = answers_done a j v some
