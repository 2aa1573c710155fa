-- What is known of each production without looking into it. The tables were computed; that they are right is proved
-- (`proofs/Tested.antt`).
use Rattle.std.specs.Prelude.{◌==◌, ℕ, List, [], ◌∷◌, if◌then◌else◌}
use Rattle.mo_grammar.specs.Codes.{ident, whole, decimal, string, end_of_file, open_paren, algorithm_word, and_word, times, annotation_word, plus, block_word, comma, break_word, minus, class_word, dot, connect_word, dot_times, connector_word, dot_plus, constant_word, dot_minus, constrainedby_word, dot_divides, der_word, dot_power, discrete_word, divides, each_word, colon, else_word, assigns, elseif_word, semicolon, elsewhen_word, less, encapsulated_word, less_equal, end_word, not_equal, equals, equation_word, equal_equal, expandable_word, greater, extends_word, greater_equal, external_word, open_bracket, false_word, final_word, power, flow_word, open_brace, for_word, function_word, if_word, import_word, impure_word, in_word, initial_word, inner_word, input_word, model_word, not_word, operator_word, or_word, outer_word, output_word, package_word, parameter_word, partial_word, protected_word, public_word, pure_word, record_word, redeclare_word, replaceable_word, return_word, stream_word, true_word, type_word, when_word, while_word, within_word}
use Rattle.mo_grammar.specs.Reading.{Tables, no_codes}
use Rattle.mo_grammar.specs.Symbols.{Symbol, Expressions, Simples, Logicals, Conjunctions, Negations, Relations, Sums, Products, Powers, Primaries, CallArguments, Arguments, MoreArguments, OneArgument, Indices, References, Subscripts, TypeSpecs, Names, ClassMods, ModArguments, EquationItems, ForEquations, WhenEquations, ElseEquations, IfEquations, StatementItems, ImportNames, ElementItems, Compositions, Sections, SectionEquations, ClassDefinitions, Files}

-- ---- parts that rows share: what begins, continues or follows a production

abbrev pub product_starts : List ℕ
product_starts =
    ident ∷ whole ∷ decimal ∷ string ∷ open_paren ∷ dot ∷ der_word ∷ end_word ∷ open_bracket ∷ false_word ∷
    open_brace ∷ initial_word ∷ pure_word ∷ true_word ∷ []

abbrev pub relation_starts : List ℕ
relation_starts = plus ∷ minus ∷ dot_plus ∷ dot_minus ∷ product_starts

abbrev pub simple_starts : List ℕ
simple_starts = not_word ∷ relation_starts

abbrev pub expression_starts : List ℕ
expression_starts = if_word ∷ simple_starts

abbrev pub argument_starts : List ℕ
argument_starts = function_word ∷ expression_starts

abbrev pub equation_starts : List ℕ
equation_starts = connect_word ∷ for_word ∷ when_word ∷ expression_starts

abbrev pub element_starts : List ℕ
element_starts =
    ident ∷ block_word ∷ class_word ∷ dot ∷ connector_word ∷ constant_word ∷ discrete_word ∷ encapsulated_word ∷
    expandable_word ∷ extends_word ∷ final_word ∷ flow_word ∷ function_word ∷ import_word ∷ impure_word ∷ inner_word ∷
    input_word ∷ model_word ∷ operator_word ∷ outer_word ∷ output_word ∷ package_word ∷ parameter_word ∷
    partial_word ∷ pure_word ∷ record_word ∷ redeclare_word ∷ replaceable_word ∷ stream_word ∷ type_word ∷ []

abbrev pub class_starts : List ℕ
class_starts =
    block_word ∷ class_word ∷ connector_word ∷ encapsulated_word ∷ expandable_word ∷ function_word ∷ impure_word ∷
    model_word ∷ operator_word ∷ package_word ∷ partial_word ∷ pure_word ∷ record_word ∷ type_word ∷ []

abbrev pub modifier_starts : List ℕ
modifier_starts = ident ∷ each_word ∷ final_word ∷ redeclare_word ∷ replaceable_word ∷ []

abbrev pub section_starts : List ℕ
section_starts =
    algorithm_word ∷ annotation_word ∷ end_word ∷ equation_word ∷ external_word ∷ initial_word ∷ protected_word ∷
    public_word ∷ []

abbrev pub product_plain_starts : List ℕ
product_plain_starts =
    ident ∷ whole ∷ decimal ∷ string ∷ dot ∷ der_word ∷ end_word ∷ false_word ∷ initial_word ∷ pure_word ∷ true_word ∷
    []

abbrev pub relation_plain_starts : List ℕ
relation_plain_starts = plus ∷ minus ∷ dot_plus ∷ dot_minus ∷ product_plain_starts

abbrev pub expression_plain_starts : List ℕ
expression_plain_starts = not_word ∷ relation_plain_starts

abbrev pub argument_plain_starts : List ℕ
argument_plain_starts = function_word ∷ expression_plain_starts

abbrev pub equation_plain_starts : List ℕ
equation_plain_starts = connect_word ∷ expression_plain_starts

abbrev pub element_plain_starts : List ℕ
element_plain_starts =
    ident ∷ dot ∷ constant_word ∷ discrete_word ∷ extends_word ∷ final_word ∷ flow_word ∷ import_word ∷ inner_word ∷
    input_word ∷ outer_word ∷ output_word ∷ parameter_word ∷ redeclare_word ∷ replaceable_word ∷ stream_word ∷ []

abbrev pub power_laters : List ℕ
power_laters = open_paren ∷ dot ∷ dot_power ∷ open_bracket ∷ power ∷ []

abbrev pub product_laters : List ℕ
product_laters = times ∷ dot_times ∷ dot_divides ∷ divides ∷ power_laters

abbrev pub sum_laters : List ℕ
sum_laters = plus ∷ minus ∷ dot_plus ∷ dot_minus ∷ product_laters

abbrev pub negation_laters : List ℕ
negation_laters = less ∷ less_equal ∷ not_equal ∷ equal_equal ∷ greater ∷ greater_equal ∷ sum_laters

abbrev pub conjunction_laters : List ℕ
conjunction_laters = and_word ∷ negation_laters

abbrev pub logical_laters : List ℕ
logical_laters = or_word ∷ conjunction_laters

abbrev pub expression_laters : List ℕ
expression_laters = colon ∷ logical_laters

abbrev pub more_argument_laters : List ℕ
more_argument_laters = ident ∷ comma ∷ equals ∷ expression_laters

abbrev pub statement_laters : List ℕ
statement_laters = string ∷ annotation_word ∷ expression_laters

abbrev pub modifier_laters : List ℕ
modifier_laters = constrainedby_word ∷ assigns ∷ equals ∷ statement_laters

abbrev pub composition_laters : List ℕ
composition_laters = ident ∷ algorithm_word ∷ end_word ∷ equation_word ∷ initial_word ∷ []

abbrev pub expression_behind_ident : List ℕ
expression_behind_ident = expression_laters

abbrev pub negation_behind_ident : List ℕ
negation_behind_ident = negation_laters

abbrev pub more_argument_behind_ident : List ℕ
more_argument_behind_ident = comma ∷ equals ∷ expression_behind_ident

abbrev pub equation_behind_ident : List ℕ
equation_behind_ident = string ∷ annotation_word ∷ equals ∷ expression_behind_ident

abbrev pub for_equation_behind_ident : List ℕ
for_equation_behind_ident = semicolon ∷ equation_behind_ident

abbrev pub product_behind_end : List ℕ
product_behind_end = times ∷ dot_times ∷ dot_divides ∷ dot_power ∷ divides ∷ power ∷ []

abbrev pub sum_behind_end : List ℕ
sum_behind_end = plus ∷ minus ∷ dot_plus ∷ dot_minus ∷ product_behind_end

abbrev pub negation_behind_end : List ℕ
negation_behind_end = less ∷ less_equal ∷ not_equal ∷ equal_equal ∷ greater ∷ greater_equal ∷ sum_behind_end

abbrev pub conjunction_behind_end : List ℕ
conjunction_behind_end = and_word ∷ negation_behind_end

abbrev pub logical_behind_end : List ℕ
logical_behind_end = or_word ∷ conjunction_behind_end

abbrev pub expression_behind_end : List ℕ
expression_behind_end = colon ∷ logical_behind_end

abbrev pub more_argument_behind_end : List ℕ
more_argument_behind_end = comma ∷ expression_behind_end

abbrev pub equation_behind_end : List ℕ
equation_behind_end = string ∷ annotation_word ∷ equals ∷ expression_behind_end

abbrev pub else_equation_behind_end : List ℕ
else_equation_behind_end = semicolon ∷ if_word ∷ equation_behind_end

abbrev pub negation_behind_initial : List ℕ
negation_behind_initial = open_paren ∷ negation_behind_end

abbrev pub conjunction_behind_initial : List ℕ
conjunction_behind_initial = and_word ∷ negation_behind_initial

abbrev pub logical_behind_initial : List ℕ
logical_behind_initial = or_word ∷ conjunction_behind_initial

abbrev pub expression_behind_initial : List ℕ
expression_behind_initial = colon ∷ logical_behind_initial

abbrev pub more_argument_behind_initial : List ℕ
more_argument_behind_initial = comma ∷ expression_behind_initial

abbrev pub equation_behind_initial : List ℕ
equation_behind_initial = open_paren ∷ equation_behind_end

abbrev pub for_equation_behind_initial : List ℕ
for_equation_behind_initial = semicolon ∷ equation_behind_initial

-- ---- the tables

-- the codes that its first token may have
abbrev pub starts : Symbol → List ℕ
starts Expressions = expression_starts
starts Simples = simple_starts
starts Logicals = simple_starts
starts Conjunctions = simple_starts
starts Negations = simple_starts
starts Relations = relation_starts
starts Sums = relation_starts
starts Products = product_starts
starts Powers = product_starts
starts Primaries = product_starts
starts CallArguments = open_paren ∷ []
starts Arguments = argument_starts
starts MoreArguments = argument_starts
starts OneArgument = argument_starts
starts Indices = ident ∷ []
starts References = ident ∷ dot ∷ []
starts Subscripts = open_bracket ∷ []
starts TypeSpecs = ident ∷ dot ∷ []
starts Names = ident ∷ []
starts ClassMods = open_paren ∷ []
starts ModArguments = modifier_starts
starts EquationItems = equation_starts
starts ForEquations = equation_starts
starts WhenEquations = elsewhen_word ∷ equation_starts
starts ElseEquations = equation_starts
starts IfEquations = else_word ∷ elseif_word ∷ equation_starts
starts StatementItems =
    ident ∷ open_paren ∷ break_word ∷ dot ∷ for_word ∷ if_word ∷ return_word ∷ when_word ∷ while_word ∷ []
starts ImportNames = ident ∷ []
starts (ElementItems hidden) = element_starts
starts Compositions =
    algorithm_word ∷ annotation_word ∷ end_word ∷ equation_word ∷ external_word ∷ initial_word ∷ protected_word ∷
    public_word ∷ element_starts
starts Sections = section_starts
starts SectionEquations =
    algorithm_word ∷ annotation_word ∷ equation_word ∷ external_word ∷ protected_word ∷ public_word ∷ equation_starts
starts ClassDefinitions = class_starts
starts Files = end_of_file ∷ final_word ∷ within_word ∷ class_starts

-- those of them that open no construct
abbrev pub plains : Symbol → List ℕ
plains Expressions = expression_plain_starts
plains Simples = expression_plain_starts
plains Logicals = expression_plain_starts
plains Conjunctions = expression_plain_starts
plains Negations = expression_plain_starts
plains Relations = relation_plain_starts
plains Sums = relation_plain_starts
plains Products = product_plain_starts
plains Powers = product_plain_starts
plains Primaries = product_plain_starts
plains CallArguments = []
plains Arguments = argument_plain_starts
plains MoreArguments = argument_plain_starts
plains OneArgument = argument_plain_starts
plains Indices = ident ∷ []
plains References = ident ∷ dot ∷ []
plains Subscripts = []
plains TypeSpecs = ident ∷ dot ∷ []
plains Names = ident ∷ []
plains ClassMods = []
plains ModArguments = modifier_starts
plains EquationItems = equation_plain_starts
plains ForEquations = equation_plain_starts
plains WhenEquations = elsewhen_word ∷ equation_plain_starts
plains ElseEquations = equation_plain_starts
plains IfEquations = else_word ∷ elseif_word ∷ equation_plain_starts
plains StatementItems = ident ∷ break_word ∷ dot ∷ return_word ∷ []
plains ImportNames = ident ∷ []
plains (ElementItems hidden) = element_plain_starts
plains Compositions =
    algorithm_word ∷ annotation_word ∷ end_word ∷ equation_word ∷ external_word ∷ initial_word ∷ protected_word ∷
    public_word ∷ element_plain_starts
plains Sections = section_starts
plains SectionEquations =
    algorithm_word ∷ annotation_word ∷ equation_word ∷ external_word ∷ protected_word ∷ public_word ∷
    equation_plain_starts
plains ClassDefinitions = []
plains Files = end_of_file ∷ final_word ∷ within_word ∷ []

-- the codes of the tokens that may make it longer
abbrev pub laters : Symbol → List ℕ
laters Expressions = expression_laters
laters Simples = expression_laters
laters Logicals = logical_laters
laters Conjunctions = conjunction_laters
laters Negations = negation_laters
laters Relations = negation_laters
laters Sums = sum_laters
laters Products = product_laters
laters Powers = power_laters
laters Primaries = open_paren ∷ dot ∷ open_bracket ∷ []
laters CallArguments = []
laters Arguments = for_word ∷ in_word ∷ more_argument_laters
laters MoreArguments = more_argument_laters
laters OneArgument = expression_laters
laters Indices = comma ∷ in_word ∷ expression_laters
laters References = dot ∷ open_bracket ∷ []
laters Subscripts = []
laters TypeSpecs = dot ∷ []
laters Names = dot ∷ []
laters ClassMods = []
laters ModArguments = modifier_laters
laters EquationItems = end_word ∷ equals ∷ for_word ∷ if_word ∷ when_word ∷ statement_laters
laters ForEquations = end_word ∷ for_word ∷ []
laters WhenEquations = end_word ∷ when_word ∷ []
laters ElseEquations = end_word ∷ if_word ∷ []
laters IfEquations = end_word ∷ if_word ∷ []
laters StatementItems = statement_laters
laters ImportNames = dot ∷ dot_times ∷ []
laters (ElementItems hidden) =
    ident ∷ algorithm_word ∷ comma ∷ end_word ∷ equation_word ∷ if_word ∷ initial_word ∷ modifier_laters
laters Compositions = composition_laters
laters Sections = composition_laters
laters SectionEquations = composition_laters
laters ClassDefinitions =
    string ∷ open_paren ∷ annotation_word ∷ plus ∷ dot ∷ equals ∷ open_bracket ∷ composition_laters
laters Files = []

-- the codes that may stand behind a first ident
abbrev pub seconds_ident : Symbol → List ℕ
seconds_ident Expressions = expression_behind_ident
seconds_ident Simples = expression_behind_ident
seconds_ident Logicals = logical_laters
seconds_ident Conjunctions = conjunction_laters
seconds_ident Negations = negation_behind_ident
seconds_ident Relations = negation_behind_ident
seconds_ident Sums = sum_laters
seconds_ident Products = product_laters
seconds_ident Powers = power_laters
seconds_ident Primaries = open_paren ∷ dot ∷ open_bracket ∷ []
seconds_ident CallArguments = []
seconds_ident Arguments = for_word ∷ more_argument_behind_ident
seconds_ident MoreArguments = more_argument_behind_ident
seconds_ident OneArgument = expression_behind_ident
seconds_ident Indices = comma ∷ in_word ∷ []
seconds_ident References = dot ∷ open_bracket ∷ []
seconds_ident Subscripts = []
seconds_ident TypeSpecs = dot ∷ []
seconds_ident Names = dot ∷ []
seconds_ident ClassMods = []
seconds_ident ModArguments = string ∷ open_paren ∷ dot ∷ assigns ∷ equals ∷ []
seconds_ident EquationItems = equation_behind_ident
seconds_ident ForEquations = for_equation_behind_ident
seconds_ident WhenEquations = for_equation_behind_ident
seconds_ident ElseEquations = for_equation_behind_ident
seconds_ident IfEquations = for_equation_behind_ident
seconds_ident StatementItems = string ∷ open_paren ∷ annotation_word ∷ dot ∷ assigns ∷ open_bracket ∷ []
seconds_ident ImportNames = dot ∷ dot_times ∷ []
seconds_ident (ElementItems hidden) = ident ∷ dot ∷ open_bracket ∷ []
seconds_ident Compositions = ident ∷ dot ∷ semicolon ∷ open_bracket ∷ []
seconds_ident Sections = []
seconds_ident SectionEquations = for_equation_behind_ident
seconds_ident ClassDefinitions = []
seconds_ident Files = []

-- the codes that may stand behind a first end_word
abbrev pub seconds_end_word : Symbol → List ℕ
seconds_end_word Expressions = expression_behind_end
seconds_end_word Simples = expression_behind_end
seconds_end_word Logicals = logical_behind_end
seconds_end_word Conjunctions = conjunction_behind_end
seconds_end_word Negations = negation_behind_end
seconds_end_word Relations = negation_behind_end
seconds_end_word Sums = sum_behind_end
seconds_end_word Products = product_behind_end
seconds_end_word Powers = dot_power ∷ power ∷ []
seconds_end_word Primaries = []
seconds_end_word CallArguments = []
seconds_end_word Arguments = for_word ∷ more_argument_behind_end
seconds_end_word MoreArguments = more_argument_behind_end
seconds_end_word OneArgument = expression_behind_end
seconds_end_word Indices = []
seconds_end_word References = []
seconds_end_word Subscripts = []
seconds_end_word TypeSpecs = []
seconds_end_word Names = []
seconds_end_word ClassMods = []
seconds_end_word ModArguments = []
seconds_end_word EquationItems = equation_behind_end
seconds_end_word ForEquations = semicolon ∷ for_word ∷ equation_behind_end
seconds_end_word WhenEquations = semicolon ∷ when_word ∷ equation_behind_end
seconds_end_word ElseEquations = else_equation_behind_end
seconds_end_word IfEquations = else_equation_behind_end
seconds_end_word StatementItems = []
seconds_end_word ImportNames = []
seconds_end_word (ElementItems hidden) = []
seconds_end_word Compositions = ident ∷ []
seconds_end_word Sections = ident ∷ []
seconds_end_word SectionEquations = ident ∷ semicolon ∷ equation_behind_end
seconds_end_word ClassDefinitions = []
seconds_end_word Files = []

-- the codes that may stand behind a first initial_word
abbrev pub seconds_initial_word : Symbol → List ℕ
seconds_initial_word Expressions = expression_behind_initial
seconds_initial_word Simples = expression_behind_initial
seconds_initial_word Logicals = logical_behind_initial
seconds_initial_word Conjunctions = conjunction_behind_initial
seconds_initial_word Negations = negation_behind_initial
seconds_initial_word Relations = negation_behind_initial
seconds_initial_word Sums = open_paren ∷ sum_behind_end
seconds_initial_word Products = open_paren ∷ product_behind_end
seconds_initial_word Powers = open_paren ∷ dot_power ∷ power ∷ []
seconds_initial_word Primaries = open_paren ∷ []
seconds_initial_word CallArguments = []
seconds_initial_word Arguments = for_word ∷ more_argument_behind_initial
seconds_initial_word MoreArguments = more_argument_behind_initial
seconds_initial_word OneArgument = expression_behind_initial
seconds_initial_word Indices = []
seconds_initial_word References = []
seconds_initial_word Subscripts = []
seconds_initial_word TypeSpecs = []
seconds_initial_word Names = []
seconds_initial_word ClassMods = []
seconds_initial_word ModArguments = []
seconds_initial_word EquationItems = equation_behind_initial
seconds_initial_word ForEquations = for_equation_behind_initial
seconds_initial_word WhenEquations = for_equation_behind_initial
seconds_initial_word ElseEquations = for_equation_behind_initial
seconds_initial_word IfEquations = for_equation_behind_initial
seconds_initial_word StatementItems = []
seconds_initial_word ImportNames = []
seconds_initial_word (ElementItems hidden) = []
seconds_initial_word Compositions = algorithm_word ∷ equation_word ∷ []
seconds_initial_word Sections = algorithm_word ∷ equation_word ∷ []
seconds_initial_word SectionEquations = algorithm_word ∷ equation_word ∷ for_equation_behind_initial
seconds_initial_word ClassDefinitions = []
seconds_initial_word Files = []

abbrev pub seconds : ℕ → Symbol → List ℕ
seconds c x = if c == ident then seconds_ident x else (if c == end_word then seconds_end_word x else (if c == initial_word then seconds_initial_word x else no_codes x))

-- a production leads only to lower ones before its first token
abbrev pub rank : Symbol → ℕ
rank Expressions = 10
rank Simples = 9
rank Logicals = 8
rank Conjunctions = 7
rank Negations = 6
rank Relations = 5
rank Sums = 4
rank Products = 3
rank Powers = 2
rank Primaries = 1
rank CallArguments = 0
rank Arguments = 11
rank MoreArguments = 12
rank OneArgument = 11
rank Indices = 0
rank References = 0
rank Subscripts = 0
rank TypeSpecs = 1
rank Names = 0
rank ClassMods = 0
rank ModArguments = 1
rank EquationItems = 10
rank ForEquations = 11
rank WhenEquations = 11
rank ElseEquations = 11
rank IfEquations = 11
rank StatementItems = 1
rank ImportNames = 0
rank (ElementItems hidden) = 2
rank Compositions = 3
rank Sections = 0
rank SectionEquations = 11
rank ClassDefinitions = 0
rank Files = 1

abbrev pub tables : Tables Symbol
tables = record { starts = starts; plains = plains; laters = laters; seconds = seconds; specials = ident ∷ end_word ∷ initial_word ∷ []; rank = rank; ranks = 13 }
