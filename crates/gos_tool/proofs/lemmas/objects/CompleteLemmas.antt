-- A source that says a module that is accepted has no fault.
--
-- It has one list of tokens, and these are one module but for its boxes (`module_tree`). What is accepted doesn't depend on these.
use Rattle.std.proofs.Common.{◌≡◌, ◌≢◌, ◌∙◌, ◌≤◌, ℕ, List, [], ◌∷◌, None, Ok, map, take, refl, ap, sym, subst}
use Rattle.gos_outside.specs.Files.{bytes_at}
use Rattle.gos_lex.specs.declared.token.Token.{Token}
use Rattle.gos_lex.specs.OneReading.{ReadsInOneWay, FaultsExcludeTokens}
use Rattle.gos_types.specs.Types.{Type', type_of}
use Rattle.gos_syntax.specs.Items.{Item, items_of}
use Rattle.gos_syntax.specs.Modules.{SeenImport, SeenModule}
use Rattle.gos_syntax.specs.Trees.{tree_of}
use Rattle.gos_syntax.specs.ModuleTrees.{ImportTree, ModuleTree, import_tree, module_tree}
use Rattle.gos_syntax.specs.ParsedModules.{IsModule, IsParsed}
use Rattle.gos_syntax.specs.OneAnswer.{FaultsExcludeModules, HasOneTree}
use Rattle.gos_model.specs.Terms.{Name}
use Rattle.gos_model.specs.Typing.{Imported, Typed}
use Rattle.gos_model.specs.Moves.{Program}
use Rattle.gos_model.specs.Sources.{import_of, program_of, term_of}
use Rattle.gos_model.specs.Weight.{weight}
use Rattle.gos_check.specs.declared.fault.CheckFault.{CheckFault}
use Rattle.gos_check.specs.declared.fault.CheckFault.TheVariants as checks
use Rattle.gos_check.specs.Faults.{Found, Refuses}
use Rattle.gos_check.specs.Judgements.{module_judged}
use Rattle.gos_check.specs.OneTerm.{TermIsOne}
use Rattle.gos_check.specs.Accepted.{AreWritten, FoundExactly, IsAccepted, IsNew, IsWritten, KeepsLimits, NamesDiffer, weighed}
use Rattle.gos_command.specs.Ends.{IsRealCause}
use Rattle.gos_command.specs.declared.status.Cause.{Cause}
use Rattle.gos_command.specs.declared.status.Cause.TheVariants as causes
use Rattle.gos_command.proofs.FilesLemmas.{is_read_whole}
use Rattle.gos_tool.specs.objects.Checked.{IsSource, IsSourceCause}
use Rattle.gos_tool.specs.objects.Complete.{AcceptedIsNotRejected, SaysOneProgram, SaysOneTerm}

-- the program of a module without its boxes
abbrev plain : ImportTree → Imported
plain i = record { name = i.name; ty = i.ty }

abbrev program_in : ModuleTree → Program
program_in t = record { imports = map plain t.imports; body = term_of [] t.body }

imports_seen : (is : List SeenImport) → map import_of is ≡ map plain (map import_tree is)
imports_seen [] = refl
imports_seen (i ∷ is) = ap (λ (xs : List Imported). import_of i ∷ xs) (imports_seen is)

program_seen : (m : SeenModule) → program_of m ≡ program_in (module_tree m)
program_seen m =
    ap (λ (xs : List Imported). record { imports = xs; body = term_of [] (tree_of m.body.form m.body.span) }) (imports_seen m.imports)

same_program : (m other : SeenModule) → module_tree m ≡ module_tree other → program_of m ≡ program_of other
same_program m other e = program_seen m ∙ (ap program_in e ∙ sym (program_seen other))

-- modules that are one but for their boxes are both accepted
first_same : (i j : SeenImport) (is js : List SeenImport) → map import_tree (i ∷ is) ≡ map import_tree (j ∷ js) → import_tree i ≡ import_tree j
first_same i j is js e = cc e

rest_same : (i j : SeenImport) (is js : List SeenImport) → map import_tree (i ∷ is) ≡ map import_tree (j ∷ js) → map import_tree is ≡ map import_tree js
rest_same i j is js e = cc e

new_too : (x : Name) (is js : List SeenImport) → map import_tree is ≡ map import_tree js → IsNew x is → IsNew x js
new_too x [] [] e new = tt
new_too x [] (j ∷ js) e new = absurd (cc e)
new_too x (i ∷ is) [] e new = absurd (cc e)
new_too x (i ∷ is) (j ∷ js) e new =
    (λ same. new.0 (ap (λ (t : ImportTree). t.name) (first_same i j is js e) ∙ same), new_too x is js (rest_same i j is js e) new.1)

differ_too : (is js : List SeenImport) → map import_tree is ≡ map import_tree js → NamesDiffer is → NamesDiffer js
differ_too [] [] e differ = tt
differ_too [] (j ∷ js) e differ = absurd (cc e)
differ_too (i ∷ is) [] e differ = absurd (cc e)
differ_too (i ∷ is) (j ∷ js) e differ = (
  subst (λ (x : Name). IsNew x js) (ap (λ (t : ImportTree). t.name) (first_same i j is js e)) (new_too i.name is js (rest_same i j is js e) differ.0),
  differ_too is js (rest_same i j is js e) differ.1,
)

written_too : (is js : List SeenImport) → map import_tree is ≡ map import_tree js → AreWritten is → AreWritten js
written_too [] [] e written = tt
written_too [] (j ∷ js) e written = absurd (cc e)
written_too (i ∷ is) [] e written = absurd (cc e)
written_too (i ∷ is) (j ∷ js) e written = (
  subst IsWritten (ap (λ (t : ImportTree). t.ty) (first_same i j is js e)) written.0,
  written_too is js (rest_same i j is js e) written.1,
)

accepted_too : (m other : SeenModule) → module_tree m ≡ module_tree other → IsAccepted m → IsAccepted other
accepted_too m other e accepted =
    let imports = ap (λ (t : ModuleTree). t.imports) e in
    let result = ap (λ (t : ModuleTree). t.result) e in
    let program = same_program m other e in
    record {
      names = differ_too m.imports other.imports imports accepted.names;
      imports = written_too m.imports other.imports imports accepted.imports;
      result = subst IsWritten result accepted.result;
      typed = subst (λ (t : Type'). Typed (program_of other).imports [] (program_of other).body t) result
          (subst (λ (p : Program). Typed p.imports [] p.body (type_of m.result)) program accepted.typed);
      limits = subst (λ (p : Program). KeepsLimits p.imports [] p.body) program accepted.limits;
      weight = subst (λ (p : Program). weight p.imports p.body ≤ 8192) program accepted.weight;
    }

-- what has a weight is refused for nothing
refused_for : (found : Found ℕ) (w : ℕ) (why : CheckFault) → found ≡ Ok w → why ≢ checks.NoMemory → Refuses found why → ⊥
refused_for found w (checks.Unbound name span) e real r = cc (e, r)
refused_for found w (checks.Differs span want got) e real r = cc (e, r)
refused_for found w (checks.NotFunction span got) e real r = cc (e, r)
refused_for found w (checks.NotPair span got) e real r = cc (e, r)
refused_for found w (checks.Shared name first second) e real r = cc (e, r)
refused_for found w (checks.Width span width value) e real r = cc (e, r)
refused_for found w (checks.TypeTooLarge span handshakes) e real r = cc (e, r)
refused_for found w (checks.Repeated name first second) e real r = cc (e, r)
refused_for found w (checks.TooHeavy heavy) e real r = cc (e, r)
refused_for found w (checks.Length span length) e real r = cc (e, r)
refused_for found w checks.NoMemory e real r = real refl

module _ (one_way : (text : List ℕ) → ReadsInOneWay text) (one_tree : (items : List Item) → HasOneTree items) where
  same_tree : (text : List ℕ) (m other : SeenModule) → IsSource text m → IsSource text other → module_tree m ≡ module_tree other
  same_tree text m other one two =
      let same = (one_way text one.tokens two.tokens None None one.scanned.reads two.scanned.reads).0 in
      one_tree (items_of text two.tokens) (module_tree m) (module_tree other)
      (subst (λ (ts : List Token). IsModule (items_of text ts) (module_tree m)) same one.parsed.derived) two.parsed.derived

  pub says_one_program : SaysOneProgram
  says_one_program text m other one two =
      let tree = same_tree text m other one.source two.source in
      (same_program m other tree, ap (λ (t : ModuleTree). t.result) tree)

  pub says_one_term : TermIsOne → SaysOneTerm
  says_one_term term_one text m other one two = term_one m other (same_tree text m other one.source two.source)

pub accepted_is_not_rejected : ((text : List ℕ) → ReadsInOneWay text) → ((text : List ℕ) → FaultsExcludeTokens text)
    → ((text : List ℕ) (tokens : List Token) → FaultsExcludeModules text tokens) → ((items : List Item) → HasOneTree items) → FoundExactly
    → AcceptedIsNotRejected
accepted_is_not_rejected one_way no_tokens no_module one_tree exactly files name m fault line says wrong =
    by fault.cause wrong.real
    (subst (λ (t : List ℕ). IsSourceCause t fault.cause)
    ((is_read_whole 65536 (bytes_at files name) (take 65537 (bytes_at files name)) refl).short says.source.scanned.short) wrong.cause)
  where
    by : (cause : Cause) → IsRealCause cause → IsSourceCause (bytes_at files name) cause → ⊥
    by (causes.Lex why) real has =
        no_tokens (bytes_at files name) why says.source.tokens has real says.source.scanned.short says.source.scanned.reads
    by (causes.Syntax why) real (tokens, scanned, has) =
        let same = (one_way (bytes_at files name) says.source.tokens tokens None None says.source.scanned.reads scanned.reads).0 in
        no_module (bytes_at files name) tokens why m has real (subst (λ (ts : List Token). IsParsed (bytes_at files name) ts m) same says.source.parsed)
    by (causes.Check why) real (other, source, refuses) =
        let tree = same_tree one_way one_tree (bytes_at files name) m other says.source source in
        refused_for (module_judged other) (weighed other) why ((exactly other (weighed other)).1 (accepted_too m other tree says.accepted, refl)) real refuses
    by (causes.Object why) real has = has
    by (causes.Link why) real has = has
    by (causes.Net why) real has = has
    by (causes.Refused why) real has = has
    by (causes.Pulse why) real has = has
    by (causes.Gates why) real has = has
    by (causes.Explain why) real has = has
