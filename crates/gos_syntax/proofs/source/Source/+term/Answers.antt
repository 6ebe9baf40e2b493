use Rattle.std.proofs.Common.{rules, [], sym, ◌∙◌}
use Rattle.gos_lex.specs.declared.word.Word.TheVariants as words
use Rattle.gos_lex.specs.declared.sign.Sign.TheVariants as signs
use Rattle.gos_syntax.specs.Items.{seen}
use Rattle.gos_syntax.specs.Grammar as grammar
use Rattle.gos_syntax.specs.Grammar.{HasWord, HasSign}
use Rattle.gos_syntax.specs.Symbols as symbols
use Rattle.gos_syntax.proofs.ItemLemmas.{name_kind}
use Rattle.gos_syntax.proofs.LeadsLemmas.{leads_then, leads_part, leads_token_to, stops_after, stops_at, stops_before}
use Rattle.gos_syntax.proofs.RuleLemmas.{leads_by}
use Rattle.gos_syntax.proofs.StopLemmas.{else_fails}
use Rattle.gos_syntax.proofs.AnswerLemmas.{refused, answered, read_by, made, made_to}
use Rattle.gos_syntax.proofs.RuleExits.{past_token, past_part, past_all, past_tail, first_refused}
use Rattle.gos_syntax.proofs.BinderExits as binders
use Rattle.gos_syntax.proofs.CommandExits as commands
use Rattle.gos_syntax.proofs.AtomExits as atoms
use Rattle.gos_syntax.proofs.source.Source.+term.Goals as goal

-- functions and blocks
pub function-returns-in_err-name : goal.function-returns-in_err-name
function-returns-in_err-name t c =
    refused c.from_residual.result c.from_residual.ensures.1
    (stops_after (past_token symbols.a_lambda c.requires.word) (stops_before _ c.in_err-name.ensures.refused))

pub function-returns-in_err-body : goal.function-returns-in_err-body
function-returns-in_err-body t c =
    refused c.from_residual-in_err-body.result c.from_residual-in_err-body.ensures.1
    (stops_after (binders.parameter_leads c.requires.word c.in_ok-name.ensures.read.read) c.in_err-body.ensures.refused)

pub function-returns : goal.function-returns
function-returns t c =
    made c.node.result c.node.ensures
    (binders.function_derived c.in_ok-body.body.value c.requires.word c.in_ok-name.ensures.read c.in_ok-body.ensures.read.derived)
    (leads_then (binders.parameter_leads c.requires.word c.in_ok-name.ensures.read.read) c.in_ok-body.ensures.read.read)

pub block-returns-in_err-local : goal.block-returns-in_err-local
block-returns-in_err-local t c =
    refused c.from_residual.result c.from_residual.ensures.1
    (stops_after (past_token symbols.a_block c.requires.word) c.in_err-local.ensures.refused)

pub block-returns-in_err-body : goal.block-returns-in_err-body
block-returns-in_err-body t c =
    refused c.from_residual-in_err-body.result c.from_residual-in_err-body.ensures.1
    (stops_after (binders.local_leads c.requires.word c.in_ok-local.ensures.read.read) c.in_err-body.ensures.refused)

pub block-returns : goal.block-returns
block-returns t c =
    made c.node.result c.node.ensures
    (binders.block_made c.args.self.now _ _ _ c.in_ok-body.body.value c.block.result c.block.ensures
    (binders.block_derived c.in_ok-body.body.value c.requires.word c.in_ok-local.ensures.read c.in_ok-body.ensures.read.derived))
    (leads_then (binders.local_leads c.requires.word c.in_ok-local.ensures.read.read) c.in_ok-body.ensures.read.read)

-- sequences and parallel commands
pub sequence-returns-in_err-first : goal.sequence-returns-in_err-first
sequence-returns-in_err-first t c =
    refused c.from_residual.result c.from_residual.ensures.1
    (first_refused symbols.a_sequence c.requires.first c.in_err-first.ensures.refused)

pub sequence-returns-then-not-is_sign : goal.sequence-returns-then-not-is_sign
sequence-returns-then-not-is_sign t c =
    answered
    (read_by c.in_ok-first.ensures.read (grammar.a_parallel _ _ _)
    (past_all symbols.a_sequence c.requires.first symbols.no_next (else_fails _ c.is_sign.ensures.sign c.if-not-is_sign.true)))

pub sequence-returns-in_err-second : goal.sequence-returns-in_err-second
sequence-returns-in_err-second t c =
    let semicolon = c.is_sign.ensures.sign.0 c.if-not-is_sign.false in
    refused c.from_residual-in_err-second.result c.from_residual-in_err-second.ensures.1
    (stops_after (past_tail symbols.a_sequence c.requires.first symbols.a_next semicolon c.in_ok-first.ensures.read.read) c.in_err-second.ensures.refused)

pub sequence-returns : goal.sequence-returns
sequence-returns t c =
    let semicolon = c.is_sign.ensures.sign.0 c.if-not-is_sign.false in
    made c.node.result c.node.ensures
    (grammar.a_sequence _ _ _ _ _ c.in_ok-first.ensures.read.derived semicolon c.in_ok-second.ensures.read.derived)
    (leads_then (past_tail symbols.a_sequence c.requires.first symbols.a_next semicolon c.in_ok-first.ensures.read.read) c.in_ok-second.ensures.read.read)

pub par-returns-in_err-left : goal.par-returns-in_err-left
par-returns-in_err-left t c =
    refused c.from_residual.result c.from_residual.ensures.1
    (first_refused symbols.a_parallel tt c.in_err-left.ensures.refused)

pub par-returns-then-not-is_sign : goal.par-returns-then-not-is_sign
par-returns-then-not-is_sign t c =
    answered
    (read_by c.in_ok-left.ensures.read (grammar.a_command _ _ _)
    (past_all symbols.a_parallel tt symbols.no_branch (else_fails _ c.is_sign.ensures.sign c.if-not-is_sign.true)))

pub par-returns-in_err-right : goal.par-returns-in_err-right
par-returns-in_err-right t c =
    let parallel = c.is_sign.ensures.sign.0 c.if-not-is_sign.false in
    refused c.from_residual-in_err-right.result c.from_residual-in_err-right.ensures.1
    (stops_after (past_tail symbols.a_parallel tt symbols.a_branch parallel c.in_ok-left.ensures.read.read) c.in_err-right.ensures.refused)

pub par-returns : goal.par-returns
par-returns t c =
    let parallel = c.is_sign.ensures.sign.0 c.if-not-is_sign.false in
    made c.node.result c.node.ensures
    (grammar.both_commands _ _ _ _ _ c.in_ok-left.ensures.read.derived parallel c.in_ok-right.ensures.read.derived)
    (leads_then (past_tail symbols.a_parallel tt symbols.a_branch parallel c.in_ok-left.ensures.read.read) c.in_ok-right.ensures.read.read)

-- commands
pub choice-returns-in_err-test : goal.choice-returns-in_err-test
choice-returns-in_err-test t c =
    refused c.from_residual.result c.from_residual.ensures.1
    (stops_after (past_token symbols.a_choice c.requires.word) (stops_at c.in_err-test.ensures.refused))

pub choice-returns-in_err-after_word : goal.choice-returns-in_err-after_word
choice-returns-in_err-after_word t c =
    refused c.from_residual-in_err-after_word.result c.from_residual-in_err-after_word.ensures.1
    (stops_after (commands.test_leads c.requires.word c.in_ok-test.ensures.read.read) (stops_at c.in_err-after_word.ensures.refused))

pub choice-returns-in_err-yes : goal.choice-returns-in_err-yes
choice-returns-in_err-yes t c =
    refused c.from_residual-in_err-yes.result c.from_residual-in_err-yes.ensures.1
    (stops_after (commands.then_leads c.requires.word c.in_ok-test.ensures.read.read c.in_ok-after_word.ensures.word c.in_ok-after_word.ensures.next)
    (stops_at c.in_err-yes.ensures.refused))

pub choice-returns-in_err-after_word-2 : goal.choice-returns-in_err-after_word-2
choice-returns-in_err-after_word-2 t c =
    refused c.from_residual-in_err-after_word-2.result c.from_residual-in_err-after_word-2.ensures.1
    (stops_after (commands.when_true_leads c.requires.word c.in_ok-test.ensures.read.read c.in_ok-after_word.ensures.word
    c.in_ok-after_word.ensures.next c.in_ok-yes.ensures.read.read) (stops_at c.in_err-after_word-2.ensures.refused))

pub choice-returns-in_err-no : goal.choice-returns-in_err-no
choice-returns-in_err-no t c =
    refused c.from_residual-in_err-no.result c.from_residual-in_err-no.ensures.1
    (stops_after (commands.else_leads c.requires.word c.in_ok-test.ensures.read.read c.in_ok-after_word.ensures.word c.in_ok-after_word.ensures.next
    c.in_ok-yes.ensures.read.read c.in_ok-after_word-2.ensures.word c.in_ok-after_word-2.ensures.next) c.in_err-no.ensures.refused)

pub choice-returns : goal.choice-returns
choice-returns t c =
    made c.node.result c.node.ensures
    (commands.choice_derived c.requires.word c.in_ok-test.ensures.read.derived c.in_ok-after_word.ensures.word c.in_ok-after_word.ensures.next
    c.in_ok-yes.ensures.read.derived c.in_ok-after_word-2.ensures.word c.in_ok-after_word-2.ensures.next c.in_ok-no.ensures.read.derived)
    (leads_then (commands.else_leads c.requires.word c.in_ok-test.ensures.read.read c.in_ok-after_word.ensures.word c.in_ok-after_word.ensures.next
    c.in_ok-yes.ensures.read.read c.in_ok-after_word-2.ensures.word c.in_ok-after_word-2.ensures.next) c.in_ok-no.ensures.read.read)

pub repetition-returns-in_err-test : goal.repetition-returns-in_err-test
repetition-returns-in_err-test t c =
    refused c.from_residual.result c.from_residual.ensures.1
    (stops_after (past_token symbols.a_loop c.requires.word) (stops_at c.in_err-test.ensures.refused))

pub repetition-returns-in_err-after_word : goal.repetition-returns-in_err-after_word
repetition-returns-in_err-after_word t c =
    refused c.from_residual-in_err-after_word.result c.from_residual-in_err-after_word.ensures.1
    (stops_after (commands.loop_test_leads c.requires.word c.in_ok-test.ensures.read.read) (stops_at c.in_err-after_word.ensures.refused))

pub repetition-returns-in_err-body : goal.repetition-returns-in_err-body
repetition-returns-in_err-body t c =
    refused c.from_residual-in_err-body.result c.from_residual-in_err-body.ensures.1
    (stops_after (commands.do_leads c.requires.word c.in_ok-test.ensures.read.read c.in_ok-after_word.ensures.word c.in_ok-after_word.ensures.next)
    c.in_err-body.ensures.refused)

pub repetition-returns : goal.repetition-returns
repetition-returns t c =
    made c.node.result c.node.ensures
    (commands.loop_derived c.requires.word c.in_ok-test.ensures.read.derived c.in_ok-after_word.ensures.word c.in_ok-after_word.ensures.next
    c.in_ok-body.ensures.read.derived)
    (leads_then (commands.do_leads c.requires.word c.in_ok-test.ensures.read.read c.in_ok-after_word.ensures.word c.in_ok-after_word.ensures.next)
    c.in_ok-body.ensures.read.read)

pub assignment-returns-in_err-left : goal.assignment-returns-in_err-left
assignment-returns-in_err-left t c =
    refused c.from_residual.result c.from_residual.ensures.1
    (first_refused symbols.an_assignment c.requires.first c.in_err-left.ensures.refused)

pub assignment-returns-then-not-is_sign : goal.assignment-returns-then-not-is_sign
assignment-returns-then-not-is_sign t c =
    answered
    (read_by c.in_ok-left.ensures.read (grammar.a_relation _ _ _)
    (past_all symbols.an_assignment c.requires.first symbols.no_value (else_fails _ c.is_sign.ensures.sign c.if-not-is_sign.true)))

pub assignment-returns-in_err-right : goal.assignment-returns-in_err-right
assignment-returns-in_err-right t c =
    let assign = c.is_sign.ensures.sign.0 c.if-not-is_sign.false in
    refused c.from_residual-in_err-right.result c.from_residual-in_err-right.ensures.1
    (stops_after (past_tail symbols.an_assignment c.requires.first symbols.a_value assign c.in_ok-left.ensures.read.read) c.in_err-right.ensures.refused)

pub assignment-returns : goal.assignment-returns
assignment-returns t c =
    let assign = c.is_sign.ensures.sign.0 c.if-not-is_sign.false in
    made c.node.result c.node.ensures
    (grammar.an_assignment _ _ _ _ _ c.in_ok-left.ensures.read.derived assign c.in_ok-right.ensures.read.derived)
    (leads_then (past_tail symbols.an_assignment c.requires.first symbols.a_value assign c.in_ok-left.ensures.read.read) c.in_ok-right.ensures.read.read)

-- comparisons
pub rel-returns-in_err-left : goal.rel-returns-in_err-left
rel-returns-in_err-left t c =
    refused c.from_residual.result c.from_residual.ensures.1
    (first_refused symbols.a_relation tt c.in_err-left.ensures.refused)

pub rel-returns-in_err-right-in-Some : goal.rel-returns-in_err-right-in-Some
rel-returns-in_err-right-in-Some t c =
    refused c.from_residual-in_err-right-in-Some.result c.from_residual-in_err-right-in-Some.ensures.1
    (stops_after (past_tail symbols.a_relation tt symbols.a_comparison (c.in-Some.op, c.in-Some.ensures.sign, c.in-Some.ensures.level)
    c.in_ok-left.ensures.read.read) c.in_err-right-in-Some.ensures.refused)

pub rel-returns-in_ok-right-in-Some : goal.rel-returns-in_ok-right-in-Some
rel-returns-in_ok-right-in-Some t c =
    made c.node.result c.node.ensures
    (grammar.a_comparison _ _ _ _ _ _ c.in_ok-left.ensures.read.derived c.in-Some.ensures.sign c.in-Some.ensures.level
    c.in_ok-right-in-Some.ensures.read.derived)
    (leads_then (past_tail symbols.a_relation tt symbols.a_comparison (c.in-Some.op, c.in-Some.ensures.sign, c.in-Some.ensures.level)
    c.in_ok-left.ensures.read.read) c.in_ok-right-in-Some.ensures.read.read)

pub rel-returns-in-None : goal.rel-returns-in-None
rel-returns-in-None t c =
    answered
    (read_by c.in_ok-left.ensures.read (grammar.some_bits _ _ _)
    (past_all symbols.a_relation tt symbols.no_comparison c.in-None.ensures.none))

-- operations on bits
pub bits-returns-in_err-left : goal.bits-returns-in_err-left
bits-returns-in_err-left t c =
    refused c.from_residual.result c.from_residual.ensures.1
    (first_refused symbols.some_bits tt c.in_err-left.ensures.refused)

pub bits-loop-op-init : goal.bits-loop-op-init
bits-loop-op-init t c = read_by c.in_ok-left.ensures.read (grammar.a_sum _ _ _) (past_part {symbols = []} symbols.some_bits tt)

pub bits-returns-in_err-right : goal.bits-returns-in_err-right
bits-returns-in_err-right t c =
    refused c.from_residual-in_err-right.result c.from_residual-in_err-right.ensures.1
    (stops_after (leads_then c.loop-op.invariant.read (past_token symbols.more_bits (c.in-Some.op, c.in-Some.ensures.sign, c.in-Some.ensures.level)))
    (stops_at c.in_err-right.ensures.refused))

pub bits-loop-op-preserved : goal.bits-loop-op-preserved
bits-loop-op-preserved t c =
    made_to c.in_ok-left-2.ensures.made
    (grammar.more_bits _ _ _ _ _ _ c.loop-op.invariant.derived c.in-Some.ensures.sign c.in-Some.ensures.level c.in_ok-right.ensures.read.derived)
    (leads_then (leads_then c.loop-op.invariant.read (past_token symbols.more_bits (c.in-Some.op, c.in-Some.ensures.sign, c.in-Some.ensures.level)))
    (leads_part c.in_ok-right.ensures.read.read))

pub bits-returns : goal.bits-returns
bits-returns t c =
    answered
    (read_by c.loop-op.invariant (λ derived. derived)
    (λ read. leads_then read (leads_by symbols.no_bits c.in_default.ensures.none)))

-- sums
pub sum-returns-in_err-left : goal.sum-returns-in_err-left
sum-returns-in_err-left t c =
    refused c.from_residual.result c.from_residual.ensures.1
    (first_refused symbols.a_sum tt c.in_err-left.ensures.refused)

pub sum-loop-op-init : goal.sum-loop-op-init
sum-loop-op-init t c = read_by c.in_ok-left.ensures.read (grammar.an_application _ _ _) (past_part {symbols = []} symbols.a_sum tt)

pub sum-returns-in_err-right : goal.sum-returns-in_err-right
sum-returns-in_err-right t c =
    refused c.from_residual-in_err-right.result c.from_residual-in_err-right.ensures.1
    (stops_after (leads_then c.loop-op.invariant.read (past_token symbols.a_summand (c.in-Some.op, c.in-Some.ensures.sign, c.in-Some.ensures.level)))
    (stops_at c.in_err-right.ensures.refused))

pub sum-loop-op-preserved : goal.sum-loop-op-preserved
sum-loop-op-preserved t c =
    made_to c.in_ok-left-2.ensures.made
    (grammar.a_longer_sum _ _ _ _ _ _ c.loop-op.invariant.derived c.in-Some.ensures.sign c.in-Some.ensures.level c.in_ok-right.ensures.read.derived)
    (leads_then (leads_then c.loop-op.invariant.read (past_token symbols.a_summand (c.in-Some.op, c.in-Some.ensures.sign, c.in-Some.ensures.level)))
    (leads_part c.in_ok-right.ensures.read.read))

pub sum-returns : goal.sum-returns
sum-returns t c =
    answered
    (read_by c.loop-op.invariant (λ derived. derived)
    (λ read. leads_then read (leads_by symbols.no_summand c.in_default.ensures.none)))

-- applications
pub app-returns-in_err-function : goal.app-returns-in_err-function
app-returns-in_err-function t c =
    refused c.from_residual.result c.from_residual.ensures.1
    (first_refused symbols.an_application tt c.in_err-function.ensures.refused)

pub app-loop-alloc-init : goal.app-loop-alloc-init
app-loop-alloc-init t c = read_by c.in_ok-function.ensures.read (grammar.an_operand _ _ _) (past_part {symbols = []} symbols.an_application tt)

pub app-returns-in_err-argument : goal.app-returns-in_err-argument
app-returns-in_err-argument t c =
    refused c.from_residual-in_err-argument.result c.from_residual-in_err-argument.ensures.1
    (stops_after (leads_then c.loop-alloc.invariant.read (leads_by symbols.an_argument (sym c.begins_operand.ensures.operand ∙ c.loop-alloc-test.true)))
    (stops_at c.in_err-argument.ensures.refused))

pub app-loop-alloc-preserved : goal.app-loop-alloc-preserved
app-loop-alloc-preserved t c =
    made_to c.in_ok-function-2.ensures.made
    (grammar.one_more_operand _ _ _ _ _ c.loop-alloc.invariant.derived c.in_ok-argument.ensures.read.derived)
    (leads_then (leads_then c.loop-alloc.invariant.read (leads_by symbols.an_argument (sym c.begins_operand.ensures.operand ∙ c.loop-alloc-test.true)))
    (leads_part c.in_ok-argument.ensures.read.read))

pub app-returns : goal.app-returns
app-returns t c =
    let begins_none = sym c.begins_operand.ensures.operand ∙ c.loop-alloc-test.false in
    answered
    (read_by c.loop-alloc.invariant (λ derived. derived)
    (λ read. leads_then read (leads_by symbols.no_argument (λ begins. let both = sym begins ∙ begins_none in cc))))

-- prefixes and atoms
pub pre-returns-in_err-operand-in-Some-Word-Not : goal.pre-returns-in_err-operand-in-Some-Word-Not
pre-returns-in_err-operand-in-Some-Word-Not t c =
    refused c.from_residual.result c.from_residual.ensures.1
    (stops_after (past_token symbols.a_negation (search rules)) c.in_err-operand-in-Some-Word-Not.ensures.refused)

pub pre-returns-in_ok-operand-in-Some-Word-Not : goal.pre-returns-in_ok-operand-in-Some-Word-Not
pre-returns-in_ok-operand-in-Some-Word-Not t c =
    let is : HasWord (seen c.args.self.now) c.args.at words.Not = search rules in
    made c.node.result c.node.ensures
    (grammar.a_negation _ _ _ is c.in_ok-operand-in-Some-Word-Not.ensures.read.derived)
    (leads_then (past_token symbols.a_negation is) c.in_ok-operand-in-Some-Word-Not.ensures.read.read)

pub pre-returns-in_err-operand-in-Some-Sign-Bang : goal.pre-returns-in_err-operand-in-Some-Sign-Bang
pre-returns-in_err-operand-in-Some-Sign-Bang t c =
    refused c.from_residual-in_err-operand-in-Some-Sign-Bang.result c.from_residual-in_err-operand-in-Some-Sign-Bang.ensures.1
    (stops_after (past_token symbols.a_reading (search rules)) c.in_err-operand-in-Some-Sign-Bang.ensures.refused)

pub pre-returns-in_ok-operand-in-Some-Sign-Bang : goal.pre-returns-in_ok-operand-in-Some-Sign-Bang
pre-returns-in_ok-operand-in-Some-Sign-Bang t c =
    let is : HasSign (seen c.args.self.now) c.args.at signs.Bang = search rules in
    made c.node-in-Some-Sign-Bang.result c.node-in-Some-Sign-Bang.ensures
    (grammar.a_reading _ _ _ is c.in_ok-operand-in-Some-Sign-Bang.ensures.read.derived)
    (leads_then (past_token symbols.a_reading is) c.in_ok-operand-in-Some-Sign-Bang.ensures.read.read)

pub pre-returns-in_err-operand-in-Some-Word-Fst : goal.pre-returns-in_err-operand-in-Some-Word-Fst
pre-returns-in_err-operand-in-Some-Word-Fst t c =
    refused c.from_residual-in_err-operand-in-Some-Word-Fst.result c.from_residual-in_err-operand-in-Some-Word-Fst.ensures.1
    (stops_after (past_token symbols.a_first_part (search rules)) c.in_err-operand-in-Some-Word-Fst.ensures.refused)

pub pre-returns-in_ok-operand-in-Some-Word-Fst : goal.pre-returns-in_ok-operand-in-Some-Word-Fst
pre-returns-in_ok-operand-in-Some-Word-Fst t c =
    let is : HasWord (seen c.args.self.now) c.args.at words.Fst = search rules in
    made c.node-in-Some-Word-Fst.result c.node-in-Some-Word-Fst.ensures
    (grammar.a_first_part _ _ _ is c.in_ok-operand-in-Some-Word-Fst.ensures.read.derived)
    (leads_then (past_token symbols.a_first_part is) c.in_ok-operand-in-Some-Word-Fst.ensures.read.read)

pub pre-returns-in_err-operand-in-Some-Word-Snd : goal.pre-returns-in_err-operand-in-Some-Word-Snd
pre-returns-in_err-operand-in-Some-Word-Snd t c =
    refused c.from_residual-in_err-operand-in-Some-Word-Snd.result c.from_residual-in_err-operand-in-Some-Word-Snd.ensures.1
    (stops_after (past_token symbols.a_second_part (search rules)) c.in_err-operand-in-Some-Word-Snd.ensures.refused)

pub pre-returns-in_ok-operand-in-Some-Word-Snd : goal.pre-returns-in_ok-operand-in-Some-Word-Snd
pre-returns-in_ok-operand-in-Some-Word-Snd t c =
    let is : HasWord (seen c.args.self.now) c.args.at words.Snd = search rules in
    made c.node-in-Some-Word-Snd.result c.node-in-Some-Word-Snd.ensures
    (grammar.a_second_part _ _ _ is c.in_ok-operand-in-Some-Word-Snd.ensures.read.derived)
    (leads_then (past_token symbols.a_second_part is) c.in_ok-operand-in-Some-Word-Snd.ensures.read.read)

pub pre-returns-in_default : goal.pre-returns-in_default
pre-returns-in_default t c = atoms.atom_passed c.atom.result (search rules, search rules, search rules, search rules) c.atom.ensures

pub atom-returns-in-Some-Word-Skip : goal.atom-returns-in-Some-Word-Skip
atom-returns-in-Some-Word-Skip t c =
    let is : HasWord (seen c.args.self.now) c.args.at words.Skip = search rules in
    made c.node.result c.node.ensures (grammar.skipping _ is) (past_token symbols.skipping is)

pub atom-returns-in_err-name-in-Some-Name : goal.atom-returns-in_err-name-in-Some-Name
atom-returns-in_err-name-in-Some-Name t c =
    refused c.from_residual.result c.from_residual.ensures.1
    (stops_after (leads_by symbols.a_use (name_kind c.args.self.now c.args.at _ c.in-Some-Name.ensures c.in-Some-Name.field-0-is))
    c.in_err-name-in-Some-Name.ensures.refused)

pub atom-returns-in_ok-name-in-Some-Name : goal.atom-returns-in_ok-name-in-Some-Name
atom-returns-in_ok-name-in-Some-Name t c =
    made c.node-in-Some-Name.result c.node-in-Some-Name.ensures (grammar.a_name _ _ c.in_ok-name-in-Some-Name.ensures.name)
    (past_token symbols.a_use (_, c.in_ok-name-in-Some-Name.ensures.name))

pub atom-returns-in_default : goal.atom-returns-in_default
atom-returns-in_default t c =
    record {
      read = tt;
      refused = atoms.no_atom_stops c.args.self.now c.args.at c.requires.within (search rules) (search rules) (search rules) (search rules);
    }

pub brackets-returns-in_err-first : goal.brackets-returns-in_err-first
brackets-returns-in_err-first t c =
    refused c.from_residual.result c.from_residual.ensures.1
    (stops_after (past_token symbols.in_brackets c.requires.sign) (stops_at c.in_err-first.ensures.refused))

pub brackets-returns-in_err-after_sign : goal.brackets-returns-in_err-after_sign
brackets-returns-in_err-after_sign t c =
    refused c.from_residual-in_err-after_sign.result c.from_residual-in_err-after_sign.ensures.1
    (atoms.end_stops c.args.self.now c.args.at c.in_ok-first.end _ c.requires.sign c.in_ok-first.ensures.read.read c.in_ok-first.ensures.read.within
    (else_fails _ c.is_sign.ensures.sign c.if-not-is_sign.true) c.in_err-after_sign.ensures.absent c.in_err-after_sign.ensures.here)

pub brackets-returns-then-not-is_sign : goal.brackets-returns-then-not-is_sign
brackets-returns-then-not-is_sign t c =
    answered
    record {
      after = search rules;
      within = c.in_ok-after_sign.ensures.within;
      derived = atoms.inner_derived c.requires.sign c.in_ok-first.ensures.read.derived c.in_ok-after_sign.ensures.sign c.in_ok-after_sign.ensures.next;
      read = atoms.inner_read c.requires.sign c.in_ok-first.ensures.read.read c.in_ok-after_sign.ensures.sign c.in_ok-after_sign.ensures.next;
    }

pub brackets-returns-in_err-second : goal.brackets-returns-in_err-second
brackets-returns-in_err-second t c =
    let comma = c.is_sign.ensures.sign.0 c.if-not-is_sign.false in
    refused c.from_residual-in_err-second.result c.from_residual-in_err-second.ensures.1
    (stops_after (atoms.comma_leads c.requires.sign c.in_ok-first.ensures.read.read comma) (stops_at c.in_err-second.ensures.refused))

pub brackets-returns-in_err-end : goal.brackets-returns-in_err-end
brackets-returns-in_err-end t c =
    let comma = c.is_sign.ensures.sign.0 c.if-not-is_sign.false in
    refused c.from_residual-in_err-end.result c.from_residual-in_err-end.ensures.1
    (stops_after (atoms.second_leads c.requires.sign c.in_ok-first.ensures.read.read comma c.in_ok-second.ensures.read.read) c.in_err-end.ensures.refused)

pub brackets-returns : goal.brackets-returns
brackets-returns t c =
    let comma = c.is_sign.ensures.sign.0 c.if-not-is_sign.false in
    made c.node.result c.node.ensures
    (atoms.pair_derived c.requires.sign c.in_ok-first.ensures.read.derived comma c.in_ok-second.ensures.read.derived c.in_ok-end.ensures.sign
    c.in_ok-end.ensures.next)
    (leads_then (atoms.second_leads c.requires.sign c.in_ok-first.ensures.read.read comma c.in_ok-second.ensures.read.read)
    (leads_token_to c.in_ok-end.ensures.next c.in_ok-end.ensures.sign))
