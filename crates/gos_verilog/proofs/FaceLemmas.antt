-- The names of the nets of a port, as an item of a module's head, and what may be left behind it.
use Rattle.std.proofs.Common.{◌≡◌, ◌≢◌, ◌⊎◌, inl, inr, ℕ, zero, suc, ◌+◌, ◌-◌, ◌<◌, ◌≤◌, Bool, true, false, cond, List, [], ◌∷◌, ◌++◌, length, get_or, take, drop, None, Some, slice_get, length-drop, refl, sym, ◌∙◌, ap, subst, arith, append_assoc, append-nil, length-append, codes}
use Rattle.std.specs.List.{flat_map, list_all, prefix_len, slice_range}
use Rattle.std.specs.Prelude.{if◌then◌else◌, ◌↔◌}
use Rattle.std.specs.Str.{bytes_eq}
use Rattle.std.proofs.lemmas.Bool.{and_parts}
use Rattle.std.proofs.lemmas.Option.{slice_get_within}
use Rattle.std.proofs.lemmas.Slice.Eq.{bytes_eq-Decides}
use Rattle.std.proofs.lemmas.List.{append_cancel_left, take-append-drop}
use Rattle.gos_lex.specs.Bytes.{continues_name}
use Rattle.gos_lex.specs.Names.{IsNameOrWord}
use Rattle.gos_lex.specs.Items.{TextAt, IsJust, Begins, StopsAt, Misses}
use Rattle.gos_netlist.specs.Nets.{Give}
use Rattle.gos_lex.specs.ItemTexts.{IsTextOf, IsFixed, Passed, ended}
use Rattle.gos_netlist.specs.Writable.{IsNumber}
use Rattle.gos_lex.proofs.PassedLemmas.{passed_as, passed_both}
use Rattle.gos_lex.proofs.SequenceLemmas.{Then, Lacks, IsCode, ended_code, ended_misses, misses_as, then_first, then_rest}
use Rattle.gos_lex.specs.declared.table.NameTable.{NameTable}
use Rattle.gos_verilog.specs.declared.port_net.Role.{Role}
use Rattle.gos_verilog.specs.declared.port_net.Role.TheVariants.{Run, Ask, Read}
use Rattle.gos_verilog.specs.PortNets.{suffix}
use Rattle.gos_lex.specs.NameTables.{number_at, added}
use Rattle.gos_verilog.specs.inner.Stages.{AreNameBytes}
use Rattle.gos_verilog.specs.inner.Breaks.{Left, Either, Among, AllMiss, Leads, LeadsOn, BreaksFrom}
use Rattle.gos_verilog.specs.inner.Left.{is_first, LeftNets}
use Rattle.gos_verilog.specs.inner.Faces.{Face', port_text, first_text, behind_text, IsFreeFace, IsFirstName, IsFirstNet, IsFreePort, IsOther, AreKnown, IsNewFace, AreNewFaces, IsNewPort, IsFaceOf, IsPortOf, IsNoName, LeftFirst, named_faces, head_end, LeftFaces, LeftFace, LeftEnd, NoFace}
use Rattle.gos_verilog.proofs.CodeLemmas as codes_of
use Rattle.gos_verilog.proofs.SuffixLemmas.{suffix_code}
use Rattle.gos_verilog.proofs.PortLemmas.{net_name}
use Rattle.gos_verilog.proofs.SlotLemmas.{no_word, fixed_code}
use Rattle.gos_verilog.proofs.BreakLemmas.{from_as, first_breaks, either_further, item_leads, leads_none, leads_both, leads_as, alone_leads, on_item, passed_at}
use Rattle.gos_verilog.proofs.AmongLemmas.{among_as}
use Rattle.gos_verilog.proofs.WordLemmas.{shift_breaks}
use Rattle.gos_verilog.proofs.LeftNetLemmas.{some_nets}
use Rattle.gos_verilog.proofs.FreeLemmas.{first_role, take_size}

-- the name of the first net with its comma, and the rest
port_rest : (v : Face') → is_first v.0 ≡ true → port_text v ≡ codes ", " ++ (ended 44 (first_text v) ++ behind_text v)
port_rest v first = first_role (λ r. port_text (r, v.1) ≡ codes ", " ++ (ended 44 (first_text (r, v.1)) ++ behind_text (r, v.1))) v.0 first (by Run) (by Ask) (by Read)
  where
    by : (r : Role) → codes ", " ++ ((v.1 ++ suffix r) ++ 44 ∷ behind_text (r, v.1)) ≡ codes ", " ++ (ended 44 (first_text (r, v.1)) ++ behind_text (r, v.1))
    by r = ap (λ (b : List ℕ). codes ", " ++ b) (sym (append_assoc (v.1 ++ suffix r) (44 ∷ []) (behind_text (r, v.1))))

-- faces whose names are names
abbrev IsFace : Face' → Type 0
IsFace v = (is_first v.0 ≡ true) × IsNameOrWord v.1

first_lacks : Lacks (IsTextOf Face' IsFace first_text) 44
first_lacks front more item = codes_of.name_lacks 44 front more (first_text item.0) (net_name item.0.1 item.0.0 item.1.1).bytes refl (sym item.2)

first_code : IsCode Face' IsFace (λ v. ended 44 (first_text v))
first_code =
    ended_code Face' IsFace first_text 44 first_lacks
    (λ v w is_v is_w same. let known = suffix_code v.1 w.1 v.0 w.0 same in (λ i. (known.1 i, known.0 i)))

pub face_code : IsCode Face' IsFace port_text
face_code v w x y is_v is_w same =
    let whole : codes ", " ++ (ended 44 (first_text v) ++ (behind_text v ++ x)) ≡ codes ", " ++ (ended 44 (first_text w) ++ (behind_text w ++ y)) = sym (parts v x is_v.0) ∙ (same ∙ parts w y is_w.0) in
    let inner = append_cancel_left (codes ", ") (ended 44 (first_text v) ++ (behind_text v ++ x)) (ended 44 (first_text w) ++ (behind_text w ++ y)) whole in
    let one = first_code v w (behind_text v ++ x) (behind_text w ++ y) is_v is_w inner in
    (one.0, append_cancel_left (port_text v) x y (same ∙ ap (λ (u : Face'). port_text u ++ y) (sym one.0)))
  where
    parts : (u : Face') (z : List ℕ) → is_first u.0 ≡ true → port_text u ++ z ≡ codes ", " ++ (ended 44 (first_text u) ++ (behind_text u ++ z))
    parts u z first =
        ap (λ (b : List ℕ). b ++ z) (port_rest u first)
        ∙ ap (λ (b : List ℕ). codes ", " ++ b) (append_assoc (ended 44 (first_text u)) (behind_text u) z)

-- a port of a free name, by its parts
abbrev Tail : NameTable → List ℕ → Type 0
Tail places = Then Face' (IsFreeFace places) (λ v. ended 44 (first_text v)) (λ v. IsFixed (behind_text v))

abbrev Parts : NameTable → List ℕ → Type 0
Parts places = Then (Unit {0}) (λ _. Unit {0}) (λ _. codes ", ") (λ _. Tail places)

joined : (places : NameTable) (bytes : List ℕ) → Parts places bytes → IsFreePort places bytes
joined places bytes (u, rest, i, (v, last, free, (w, j, end), inner), whole) =
    (v, free, whole ∙ (ap (λ (b : List ℕ). codes ", " ++ b) (inner ∙ ap (λ (b : List ℕ). ended 44 (first_text v) ++ b) end) ∙ sym (port_rest v free.0)))

cut : (places : NameTable) (bytes : List ℕ) → IsFreePort places bytes → Parts places bytes
cut places bytes (v, free, whole) = (tt, ended 44 (first_text v) ++ behind_text v, tt, (v, behind_text v, free, (tt, tt, refl), refl), whole ∙ port_rest v free.0)

free_code : (places : NameTable) → IsCode Face' (IsFreeFace places) (λ v. ended 44 (first_text v))
free_code places v w x y is_v is_w = first_code v w x y (is_v.0, is_v.1.0) (is_w.0, is_w.1.0)

some_tail : (places : NameTable) → Begins (IsFirstName places) [] → (bytes : List ℕ) × Tail places bytes
some_tail places (more, (v, free, is)) = (ended 44 (first_text v) ++ behind_text v, (v, behind_text v, free, (tt, tt, refl), refl))

-- where its comma, its first net or the rest breaks off, it does
pub no_comma : (places : NameTable) (text : List ℕ) (at place : ℕ) → Begins (IsFirstName places) [] → Misses (IsJust (codes ", ")) text at place → Misses (IsFreePort places) text at place
no_comma places text at place some misses =
    misses_as (Parts places) (IsFreePort places) text at place (joined places) (cut places)
    (then_first (Unit {0}) (λ _. Unit {0}) (λ _. codes ", ") (λ _. Tail places) text at place (λ v is. some_tail places some) (no_word (codes ", ") text at place misses))

behind_comma : (places : NameTable) (text : List ℕ) (at mid place : ℕ) → Passed (record { text = text; at = at }) (record { text = text; at = mid }) (codes ", ") → Misses (Tail places) text mid place → Misses (IsFreePort places) text at place
behind_comma places text at mid place passed misses =
    misses_as (Parts places) (IsFreePort places) text at place (joined places) (cut places)
    (then_rest (Unit {0}) (λ _. Unit {0}) (λ _. codes ", ") (λ _. Tail places) text at mid place tt (fixed_code (codes ", ")) tt passed.after passed.within passed.is misses)

pub no_first_net : (places : NameTable) (text : List ℕ) (at mid place : ℕ) → Passed (record { text = text; at = at }) (record { text = text; at = mid }) (codes ", ") → Misses (IsFirstNet places) text mid place → Misses (IsFreePort places) text at place
no_first_net places text at mid place passed misses =
    behind_comma places text at mid place passed
    (then_first Face' (IsFreeFace places) (λ v. ended 44 (first_text v)) (λ v. IsFixed (behind_text v)) text mid place (λ v is. (behind_text v, (tt, tt, refl))) misses)

pub no_behind : (places : NameTable) (v : Face') (text : List ℕ) (at mid last place : ℕ) → IsFreeFace places v → Passed (record { text = text; at = at }) (record { text = text; at = mid }) (codes ", ")
    → Passed (record { text = text; at = mid }) (record { text = text; at = last }) (ended 44 (first_text v)) → Misses (IsJust (behind_text v)) text last place → Misses (IsFreePort places) text at place
no_behind places v text at mid last place free first second misses =
    behind_comma places text at mid place first
    (then_rest Face' (IsFreeFace places) (λ u. ended 44 (first_text u)) (λ u. IsFixed (behind_text u)) text mid last place v (free_code places) free second.after second.within second.is
    (no_word (behind_text v) text last place misses))

pub port_passed : (v : Face') (text : List ℕ) (at mid last end : ℕ) → is_first v.0 ≡ true → Passed (record { text = text; at = at }) (record { text = text; at = mid }) (codes ", ")
    → Passed (record { text = text; at = mid }) (record { text = text; at = last }) (ended 44 (first_text v)) → Passed (record { text = text; at = last }) (record { text = text; at = end }) (behind_text v)
    → Passed (record { text = text; at = at }) (record { text = text; at = end }) (port_text v)
port_passed v text at mid last end first one two three =
    let start : TextAt = record { text = text; at = at } in
    let behind = passed_both (record { text = text; at = mid }) (record { text = text; at = last }) (record { text = text; at = end }) (ended 44 (first_text v)) (behind_text v) two three in
    passed_as start (record { text = text; at = end }) (codes ", " ++ (ended 44 (first_text v) ++ behind_text v)) (port_text v) (sym (port_rest v first))
    (passed_both start (record { text = text; at = mid }) (record { text = text; at = end }) (codes ", ") (ended 44 (first_text v) ++ behind_text v) one behind)

-- a port whose name is free is one behind those that are known
pub new_face : (places : NameTable) (before : List Face') (v : Face') → AreKnown before places → IsFreeFace places v → IsNewFace before v
new_face places before v known free = (free.0, free.1.0, (known v.1).0 free.1.1)

pub new_port_misses : (places : NameTable) (before : List Face') (text : List ℕ) (at place : ℕ) → AreKnown before places → Misses (IsFreePort places) text at place → Misses (IsNewPort before) text at place
new_port_misses places before text at place known =
    misses_as (IsFreePort places) (IsNewPort before) text at place
    (λ bytes item. (item.0, new_face places before item.0 known item.1, item.2))
    (λ bytes item. (item.0, (item.1.0, (item.1.1, (known item.0.1).1 item.1.2)), item.2))

-- what may be left behind ports: another, or the end
snoc_append : (before : List Face') (s : Face') (more : List Face') → before ++ s ∷ more ≡ (before ++ s ∷ []) ++ more
snoc_append before s more = sym (append_assoc before (s ∷ []) more)

pub some_faces : (before : List Face') → IsNumber (length before) → (x : List ℕ) × LeftFaces before x
some_faces before few =
    let rest = some_nets [] Give 0 (named_faces (before ++ [])) in
    (head_end ++ rest.0, ([], rest.0, tt, subst (λ (all : List Face'). IsNumber (length all)) (sym (append-nil before)) few, rest.1, refl))

pub faces_split : (before : List Face') (x : List ℕ) → LeftFaces before x → Either (LeftFace before) (LeftEnd before) x
faces_split before x ([], rest, new, few, left, is) = inr (tt, rest, tt, subst (λ (all : List Face'). LeftNets [] Give 0 (named_faces all) rest) (append-nil before) left, is)
faces_split before x ((s ∷ more), rest, new, few, left, is) =
    inl (
      s,
      flat_map port_text more ++ (head_end ++ rest),
      (new.0, omega (arith, few, length-append before (s ∷ more))),
      (
        more,
        rest,
        new.1,
        subst (λ (all : List Face'). IsNumber (length all)) (snoc_append before s more) few,
        subst (λ (all : List Face'). LeftNets [] Give 0 (named_faces all) rest) (snoc_append before s more) left,
        refl,
      ),
      is ∙ append_assoc (port_text s) (flat_map port_text more) (head_end ++ rest),
    )

pub faces_join : (before : List Face') → IsNumber (length before) → (x : List ℕ) → Either (LeftFace before) (LeftEnd before) x → LeftFaces before x
faces_join before few x (inr (u, rest, i, left, is)) = (
  [],
  rest,
  tt,
  subst (λ (all : List Face'). IsNumber (length all)) (sym (append-nil before)) few,
  subst (λ (all : List Face'). LeftNets [] Give 0 (named_faces all) rest) (sym (append-nil before)) left,
  is,
)
faces_join before few x (inl (s, rest, is_s, (more, last, new, fit, left, inner), is)) = (
  s ∷ more,
  last,
  (is_s.0, new),
  subst (λ (all : List Face'). IsNumber (length all)) (sym (snoc_append before s more)) fit,
  subst (λ (all : List Face'). LeftNets [] Give 0 (named_faces all) last) (sym (snoc_append before s more)) left,
  is ∙ (ap (λ (b : List ℕ). port_text s ++ b) inner ∙ sym (append_assoc (port_text s) (flat_map port_text more) (head_end ++ last))),
)

-- the end begins as no port does
no_port : (before : List Face') (v : Face') → is_first v.0 ≡ true → Begins (LeftEnd before) (port_text v) → ⊥
no_port before v first (more, (u, rest, i, left, is)) =
    let byte : 44 ≡ 41 = ap (λ (b : List ℕ). get_or b 0 0) (sym (ap (λ (b : List ℕ). b ++ more) (port_rest v first)) ∙ is) in omega (arith, byte)

-- ports lead on
pub faces_lead : (before more : List Face') → AreNewFaces before more → IsNumber (length (before ++ more)) → Leads (LeftFaces before) (LeftFaces (before ++ more)) (flat_map port_text more)
faces_lead before [] new few = subst (λ (all : List Face'). Leads (LeftFaces before) (LeftFaces all) []) (sym (append-nil before)) (leads_none (LeftFaces before))
faces_lead before (s ∷ more) new few =
    let longer : List Face' = before ++ s ∷ [] in
    let size = length-append before (s ∷ more) in
    let all : longer ++ more ≡ before ++ s ∷ more = append_assoc before (s ∷ []) more in
    let some : IsNumber (length before) = omega (arith, few, size) in
    let one : Leads (LeftFace before) (LeftFaces longer) (port_text s) =
    item_leads Face' (λ v. IsNewFace before v × (length before < 4294967295)) port_text (λ v. LeftFaces (before ++ v ∷ [])) s
    (λ v w x y is_v is_w. face_code v w x y (is_v.0.0, is_v.0.1) (is_w.0.0, is_w.0.1)) (new.0, omega (arith, few, size)) in
    let first : Leads (LeftFaces before) (LeftFaces longer) (port_text s) =
    leads_as (Either (LeftFace before) (LeftEnd before)) (LeftFaces longer) (LeftFaces before) (LeftFaces longer) (port_text s)
    (faces_join before some) (faces_split before) (λ x is. is) (λ x is. is)
    (alone_leads (LeftFace before) (LeftEnd before) (LeftFaces longer) (port_text s) (no_port before s new.0.0) one) in
    let rest = faces_lead longer more new.1 (subst (λ (list : List Face'). IsNumber (length list)) (sym all) few) in
    leads_both (LeftFaces before) (LeftFaces longer) (LeftFaces (before ++ s ∷ more)) (port_text s) (flat_map port_text more) first
    (subst (λ (list : List Face'). Leads (LeftFaces longer) (LeftFaces list) (flat_map port_text more)) all rest)

-- where no further one is named, and the end breaks off
pub faces_break : (faces : List Face') (text : List ℕ) (at stopped place r : ℕ) → IsNumber (length faces) → NoFace faces text at stopped
    → Misses (IsJust head_end) text at place → stopped ≤ r → place ≤ r → (r ≡ stopped) ⊎ (r ≡ place) → BreaksFrom (LeftFaces faces) (record { text = text; at = at }) r
faces_break faces text at stopped place r few none misses over_stopped over_place max = by none
  where
    end : BreaksFrom (LeftEnd faces) (record { text = text; at = at }) place
    end = first_breaks (Unit {0}) (λ _. Unit {0}) (λ _. head_end) (λ _. LeftNets [] Give 0 (named_faces faces)) text at place (λ _ _. some_nets [] Give 0 (named_faces faces)) (no_word head_end text at place misses)

    by : NoFace faces text at stopped → BreaksFrom (LeftFaces faces) (record { text = text; at = at }) r
    by (inl (full, same)) =
        subst (λ (p : ℕ). BreaksFrom (LeftFaces faces) (record { text = text; at = at }) p) (ends max)
        (from_as (LeftEnd faces) (LeftFaces faces) (record { text = text; at = at }) place (λ x left. faces_join faces few x (inr left)) from end)
      where
        ends : r ≡ stopped ⊎ (r ≡ place) → place ≡ r
        ends (inl is_stopped) = omega (arith, is_stopped, same, misses.stops.after, over_place)
        ends (inr is_place) = sym is_place

        from : (x : List ℕ) → LeftFaces faces x → LeftEnd faces x
        from x left = elim (faces_split faces x left) [ inl face ↦ absurd (omega (arith, full, face.2.1)) | inr last ↦ last ]
    by (inr (room, missed)) =
        let more : Misses (IsTextOf Face' (λ v. IsNewFace faces v × (length faces < 4294967295)) port_text) text at stopped =
        misses_as (IsNewPort faces) (IsTextOf Face' (λ v. IsNewFace faces v × (length faces < 4294967295)) port_text) text at stopped
        (λ bytes is. (is.0, (is.1, room), is.2)) (λ bytes is. (is.0, is.1.0, is.2)) missed in
        let one = first_breaks Face' (λ v. IsNewFace faces v × (length faces < 4294967295)) port_text (λ v. LeftFaces (faces ++ v ∷ [])) text at stopped
        (λ v is. some_faces (faces ++ v ∷ []) (omega (arith, room, length-append faces (v ∷ [])))) more in
        from_as (Either (LeftFace faces) (LeftEnd faces)) (LeftFaces faces) (record { text = text; at = at }) r (faces_join faces few) (faces_split faces)
        (either_further (LeftFace faces) (LeftEnd faces) (record { text = text; at = at }) stopped place r over_stopped over_place max one end)

-- a byte at a place, and what stands behind it
cut_byte : (text : List ℕ) (n b : ℕ) → slice_get text n ≡ Some b → (n < length text) × (drop n text ≡ b ∷ drop (n + 1) text)
cut_byte text n b is = (slice_get_within text n b is, by text n is)
  where
    by : (t : List ℕ) (k : ℕ) → slice_get t k ≡ Some b → drop k t ≡ b ∷ drop (k + 1) t
    by [] k here = absurd (omega (arith, slice_get_within [] k b here))
    by (c ∷ t) zero here = let same : c ≡ b = cc here in ap (λ (d : ℕ). d ∷ t) same
    by (c ∷ t) (suc k) here = let e : suc k + 1 ≡ suc (k + 1) = omega arith in by t k here ∙ ap (λ (n' : ℕ). b ∷ drop n' (c ∷ t)) (sym e)

-- a name and its comma are passed
pub name_passed : (rest word : List ℕ) (len : ℕ) → take len rest ≡ word → slice_get rest len ≡ Some 44
    → (len + 1 ≤ length rest) × Passed (record { text = rest; at = 0 }) (record { text = rest; at = len + 1 }) (ended 44 word)
name_passed rest word len is comma =
    let behind = cut_byte rest len 44 comma in
    let whole : rest ≡ ended 44 word ++ drop (len + 1) rest =
    sym (take-append-drop len rest) ∙ ((λ i. is i ++ behind.1 i) ∙ sym (append_assoc word (44 ∷ []) (drop (len + 1) rest))) in
    let size : length rest ≡ length word + 1 + length (drop (len + 1) rest) = ap length whole ∙ (length-append (ended 44 word) (drop (len + 1) rest) ∙ ap (λ (n : ℕ). n + length (drop (len + 1) rest)) (length-append word (44 ∷ []))) in
    let long : length (drop (len + 1) rest) ≡ length rest - (len + 1) = length-drop (len + 1) rest in
    (omega (arith, behind.0), passed_at rest 0 (len + 1) (ended 44 word) (omega arith) whole (omega (arith, size, long, behind.0, length-append word (44 ∷ []))))

-- the bytes of a name before another byte
prefix_is : (bytes : List ℕ) (end : ℕ) (x : List ℕ) → AreNameBytes bytes → continues_name end ≡ false → prefix_len continues_name (bytes ++ end ∷ x) ≡ length bytes
prefix_is [] end x are ends = ap (λ (b : Bool). cond b (1 + prefix_len continues_name x) 0) ends
prefix_is (b ∷ bytes) end x are ends =
    let parts = and_parts (continues_name b) (list_all continues_name bytes) are in
    let e : 1 + length bytes ≡ suc (length bytes) = omega arith in
    ap (λ (t : Bool). cond t (1 + prefix_len continues_name (bytes ++ end ∷ x)) 0) parts.0 ∙ (ap (λ (n : ℕ). 1 + n) (prefix_is bytes end x parts.1 ends) ∙ e)

prefix_within : (text : List ℕ) → prefix_len continues_name text ≤ length text
prefix_within [] = omega arith
prefix_within (c ∷ text) = by (continues_name c) (prefix_within text)
  where
    by : (t : Bool) → prefix_len continues_name text ≤ length text → cond t (1 + prefix_len continues_name text) 0 ≤ suc (length text)
    by true inside = omega (arith, inside)
    by false inside = omega arith

pub within_prefix : (text : List ℕ) (len : ℕ) → len ≡ prefix_len continues_name text → len ≤ length text
within_prefix text len is = omega (arith, is, prefix_within text)

-- where no name stands before a comma, it breaks off where its bytes do
pub no_first_name : (places : NameTable) (rest : List ℕ) (len place : ℕ) → len ≡ prefix_len continues_name rest → IsNoName places rest len → StopsAt (IsFirstName places) rest 0 place → Misses (IsFirstNet places) rest 0 place
no_first_name places rest len place is none stops =
    ended_misses Face' (IsFreeFace places) first_text 44 rest 0 place (λ front more item. first_lacks front more (item.0, (item.1.0, item.1.1.0), item.2)) not_whole stops
  where
    not_whole : place < length rest → get_or rest place 0 ≡ 44 → IsTextOf Face' (IsFreeFace places) first_text (slice_range rest 0 place) → ⊥
    not_whole some byte (v, free, same) =
        let e : place - 0 ≡ place = omega arith in
        let front : take place rest ≡ first_text v = (λ i. take (sym e i) rest) ∙ same in
        let here : slice_get rest place ≡ Some 44 = get_byte rest place some byte in
        let behind = cut_byte rest place 44 here in
        let whole : rest ≡ first_text v ++ 44 ∷ drop (place + 1) rest = sym (take-append-drop place rest) ∙ (λ i. front i ++ behind.1 i) in
        let size : length (first_text v) ≡ place = sym (ap length front) ∙ take_size place rest (omega (arith, some)) in
        let long : len ≡ place = is ∙ (ap (prefix_len continues_name) whole ∙ (prefix_is (first_text v) 44 (drop (place + 1) rest) (net_name v.1 v.0 free.1.0).bytes refl ∙ size)) in
        none v (free, (λ i. take (long i) rest) ∙ front, (λ i. slice_get rest (long i)) ∙ here)
      where
        get_byte : (text : List ℕ) (n : ℕ) → n < length text → get_or text n 0 ≡ 44 → slice_get text n ≡ Some 44
        get_byte [] n some byte = absurd (omega (arith, some))
        get_byte (c ∷ text) zero some byte = ap Some byte
        get_byte (c ∷ text) (suc n) some byte = get_byte text n (omega (arith, some)) byte

-- the first port is of one of three kinds
abbrev pub kinds : List Role
kinds = Run ∷ Ask ∷ Read ∷ []

abbrev pub KindAt : List ℕ → ℕ → Left
KindAt name k = IsJust (port_text (get_or kinds k Run, name))

pub kind_first : (n : ℕ) → n < 3 → is_first (get_or kinds n Run) ≡ true
kind_first zero small = refl
kind_first (suc zero) small = refl
kind_first (suc (suc zero)) small = refl
kind_first (suc (suc (suc n))) small = absurd (omega (arith, small))

pub kinds_miss : (name rest : List ℕ) (furthest : ℕ) → AllMiss (KindAt name) rest 0 3 furthest → Misses (IsPortOf name) rest 0 furthest
kinds_miss name rest furthest far = among_as (KindAt name) (IsPortOf name) rest 0 3 furthest (omega arith) to from far
  where
    to : (j : ℕ) (bytes : List ℕ) → j < 3 → KindAt name j bytes → IsPortOf name bytes
    to zero bytes small is = ((Run, name), (refl, refl), is)
    to (suc zero) bytes small is = ((Ask, name), (refl, refl), is)
    to (suc (suc zero)) bytes small is = ((Read, name), (refl, refl), is)
    to (suc (suc (suc j))) bytes small is = absurd (omega (arith, small))

    from : (bytes : List ℕ) → IsPortOf name bytes → Among (KindAt name) 3 bytes
    from bytes (v, of, is) =
        let whole : bytes ≡ port_text (v.0, name) = is ∙ ap (λ (n : List ℕ). port_text (v.0, n)) of.1 in
        first_role (λ r. bytes ≡ port_text (r, name) → Among (KindAt name) 3 bytes) v.0 of.0 (λ e. (0, omega arith, e)) (λ e. (1, omega arith, e)) (λ e. (2, omega arith, e)) whole

-- what breaks off at the front of the rest does in the text
pub first_fault : (name text rest : List ℕ) (at place : ℕ) → rest ≡ drop at text → Misses (IsPortOf name) rest 0 place → BreaksFrom (LeftFirst name) (record { text = text; at = at }) (at + place)
first_fault name text rest at place is misses =
    shift_breaks (LeftFirst name) text rest at place is
    (first_breaks Face' (IsFaceOf name) port_text (λ v. LeftFaces (v ∷ [])) rest 0 place (λ v _. some_faces (v ∷ []) (omega arith)) misses)

-- behind the first port, ports and the end
pub first_leads : (name text : List ℕ) (at mid : ℕ) (v : Face') → IsNameOrWord name → IsFaceOf name v → Passed (record { text = text; at = at }) (record { text = text; at = mid }) (port_text v)
    → LeadsOn (LeftFirst name) (LeftFaces (v ∷ [])) (record { text = text; at = at }) (record { text = text; at = mid })
first_leads name text at mid v is of passed =
    on_item Face' (IsFaceOf name) port_text (λ u. LeftFaces (u ∷ [])) (record { text = text; at = at }) (record { text = text; at = mid }) v
    (λ u w x y is_u is_w. face_code u w x y (is_u.0, subst IsNameOrWord (sym is_u.1) is) (is_w.0, subst IsNameOrWord (sym is_w.1) is)) of passed

pub all_lead : (text : List ℕ) (at end : ℕ) (v : Face') (more : List Face') → AreNewFaces (v ∷ []) more → IsNumber (length (v ∷ more)) → Passed (record { text = text; at = at }) (record { text = text; at = end }) (flat_map port_text more)
    → LeadsOn (LeftFaces (v ∷ [])) (LeftFaces (v ∷ more)) (record { text = text; at = at }) (record { text = text; at = end })
all_lead text at end v more new few passed = record { word = flat_map port_text more; passed = passed; leads = faces_lead (v ∷ []) more new few }

other_snoc : (name : List ℕ) (faces : List Face') (v : Face') → (v.1 ≢ name) → IsOther name faces → IsOther name (faces ++ v ∷ [])
other_snoc name [] v apart all = (apart, tt)
other_snoc name (u ∷ faces) v apart all = (all.0, other_snoc name faces v apart all.1)

other_front : (name : List ℕ) (faces : List Face') (v : Face') → IsOther name (faces ++ v ∷ []) → IsOther name faces × (v.1 ≢ name)
other_front name [] v all = (tt, all.0)
other_front name (u ∷ faces) v all = let rest = other_front name faces v all.1 in ((all.0, rest.0), rest.1)

pub known_more : (old new : NameTable) (faces longer : List Face') (v : Face') → longer ≡ faces ++ v ∷ [] → AreKnown faces old → ((other : List ℕ) → number_at new other ≡ added v.1 0 (number_at old other) other) → AreKnown longer new
known_more old new faces longer v is known more name = subst (λ (list : List Face'). (number_at new name ≡ None) ↔ IsOther name list) (sym is) (by (bytes_eq name v.1) refl)
  where
    by : (t : Bool) → bytes_eq name v.1 ≡ t → (number_at new name ≡ None) ↔ IsOther name (faces ++ v ∷ [])
    by true same = (
      (λ none. let both : Some 0 ≡ None = ap (λ (b : Bool). if b then Some 0 else number_at old name) (sym same) ∙ (sym (more name) ∙ none) in absurd (cc both)),
      (λ other. absurd ((other_front name faces v other).1 (sym ((bytes_eq-Decides name v.1).0 same)))),
    )
    by false other =
        let kept : number_at new name ≡ number_at old name = more name ∙ ap (λ (b : Bool). if b then Some 0 else number_at old name) other in (
          (λ none.
              other_snoc name faces v (λ same. let both : true ≡ false = sym ((bytes_eq-Decides name v.1).1 (sym same)) ∙ other in cc both)
              ((known name).0 (sym kept ∙ none))),
          (λ all. kept ∙ (known name).1 (other_front name faces v all).0),
        )

-- one more is new
pub new_more : (before more longer : List Face') (v : Face') → longer ≡ more ++ v ∷ [] → AreNewFaces before more → IsNewFace (before ++ more) v → AreNewFaces before longer
new_more before more longer v is new last = subst (AreNewFaces before) (sym is) (by before more new last)
  where
    by : (bs ms : List Face') → AreNewFaces bs ms → IsNewFace (bs ++ ms) v → AreNewFaces bs (ms ++ v ∷ [])
    by bs [] known one = (subst (λ (list : List Face'). IsNewFace list v) (append-nil bs) one, tt)
    by bs (s ∷ ms) known one = (known.0, by (bs ++ s ∷ []) ms known.1 (subst (λ (list : List Face'). IsNewFace list v) (snoc_append bs s ms) one))

pub ports_snoc : (more : List Face') (v : Face') → flat_map port_text (more ++ v ∷ []) ≡ flat_map port_text more ++ port_text v
ports_snoc [] v = append-nil (port_text v)
ports_snoc (u ∷ more) v = ap (λ (b : List ℕ). port_text u ++ b) (ports_snoc more v) ∙ sym (append_assoc (port_text u) (flat_map port_text more) (port_text v))
