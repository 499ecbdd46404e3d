-- The class of a token's text.
use Rattle.std.specs.Prelude.{ℕ, suc, List, [], ◌∷◌, Bool, false, ◌||◌, ◌==◌, if◌then◌else◌, Option, Some, None, codes, map}
use Rattle.std.specs.Str.{bytes_eq}
use Rattle.std.specs.List.{starts_with, list_all}
use Rattle.std.specs.Prelude.{nat_eq}
use Rattle.asm_lex.specs.Cut.{is_word, is_variable, is_number, is_between, is_digit}
use Rattle.asm_tree.specs.declared.class.Class.{Class}
use Rattle.asm_tree.specs.declared.class.Class.TheVariants.{Asm, Module, Import, Export, Signature, Definitions, Enum, Domain, Abstract, SubsetOf, Dynamic, Static, Derived, Controlled, Monitored, Shared, Out, Function, Macro, Rule, Main, Default, Init, Invariant, Over, Prod, Skip, Par, EndPar, Seq, EndSeq, If, Then, Else, EndIf, Switch, Case, Otherwise, EndSwitch, Let, In, EndLet, Forall, Exist, Unique, With, Do, Choose, IfNone, True, False, Undef, Not, And, Or, Xor, Implies, Iff, Mod, Idiv, EqualName, NotEqualName, LessName, LessEqualName, GreaterName, GreaterEqualName, PlusName, MinusName, TimesName, IsDef, IsUndef, Min, Max, Abs, Scenario, Load, Set, Step, Until, Check, Exec, Begin, End, ExecBlock, Unsupported, RuleName, InvariantName, FunctionName, ElementName, CapitalName, Assign, Arrow, NotEqual, LessEqual, GreaterEqual, To, OpenBrace, CloseBrace, Open, Close, OpenBracket, CloseBracket, Comma, Colon, Semicolon, Equal, Less, Greater, Plus, Minus, Times, Slash, Dot, Bar, Variable, Number, Other}
use Rattle.asm_tree.specs.declared.class.TheConstants.{WORDS}

-- the class that a table gives these bytes
abbrev pub class_in : List (List ℕ × Class) → List ℕ → Option Class
class_in [] w = None
class_in (row ∷ rows) w = if bytes_eq row.0 w then Some row.1 else class_in rows w

-- `a` to `z` first
abbrev pub begins_lower : List ℕ → Bool
begins_lower [] = false
begins_lower (b ∷ bs) = is_between 97 122 b

-- an upper-case letter, a digit or `_`
abbrev pub in_element : ℕ → Bool
in_element b = is_between 65 90 b || (is_digit b || (b == 95))

-- two such bytes or more, and no other
abbrev pub is_element : List ℕ → Bool
is_element [] = false
is_element (b ∷ []) = false
is_element (b ∷ (c ∷ bs)) = list_all in_element (b ∷ (c ∷ bs))

-- the class of a word that stands in no table
abbrev pub name_class : List ℕ → Class
name_class w =
    if starts_with nat_eq w (codes "r_") then RuleName
    else (if starts_with nat_eq w (codes "inv_") then InvariantName
    else (if begins_lower w then FunctionName
    else (if is_element w then ElementName
    else CapitalName)))

-- the class of a token that stands in no table
abbrev pub free_class : List ℕ → Class
free_class w =
    if is_word w then name_class w
    else (if is_variable w then Variable
    else (if is_number w then Number
    else Other))

abbrev pub class_or : Option Class → List ℕ → Class
class_or (Some c) w = c
class_or None w = free_class w

unfoldable pub class_of : List ℕ → Class
class_of w = class_or (class_in (map (λ row. (row.0.now, row.1)) WORDS) w) w

unfoldable pub number : Class → ℕ
number Asm = 0
number Module = 1
number Import = 2
number Export = 3
number Signature = 4
number Definitions = 5
number Enum = 6
number Domain = 7
number Abstract = 8
number SubsetOf = 9
number Dynamic = 10
number Static = 11
number Derived = 12
number Controlled = 13
number Monitored = 14
number Shared = 15
number Out = 16
number Function = 17
number Macro = 18
number Rule = 19
number Main = 20
number Default = 21
number Init = 22
number Invariant = 23
number Over = 24
number Prod = 25
number Skip = 26
number Par = 27
number EndPar = 28
number Seq = 29
number EndSeq = 30
number If = 31
number Then = 32
number Else = 33
number EndIf = 34
number Switch = 35
number Case = 36
number Otherwise = 37
number EndSwitch = 38
number Let = 39
number In = 40
number EndLet = 41
number Forall = 42
number Exist = 43
number Unique = 44
number With = 45
number Do = 46
number Choose = 47
number IfNone = 48
number True = 49
number False = 50
number Undef = 51
number Not = 52
number And = 53
number Or = 54
number Xor = 55
number Implies = 56
number Iff = 57
number Mod = 58
number Idiv = 59
number EqualName = 60
number NotEqualName = 61
number LessName = 62
number LessEqualName = 63
number GreaterName = 64
number GreaterEqualName = 65
number PlusName = 66
number MinusName = 67
number TimesName = 68
number IsDef = 69
number IsUndef = 70
number Min = 71
number Max = 72
number Abs = 73
number Scenario = 74
number Load = 75
number Set = 76
number Step = 77
number Until = 78
number Check = 79
number Exec = 80
number Begin = 81
number End = 82
number ExecBlock = 83
number Unsupported = 84
number RuleName = 85
number InvariantName = 86
number FunctionName = 87
number ElementName = 88
number CapitalName = 89
number Assign = 90
number Arrow = 91
number NotEqual = 92
number LessEqual = 93
number GreaterEqual = 94
number To = 95
number OpenBrace = 96
number CloseBrace = 97
number Open = 98
number Close = 99
number OpenBracket = 100
number CloseBracket = 101
number Comma = 102
number Colon = 103
number Semicolon = 104
number Equal = 105
number Less = 106
number Greater = 107
number Plus = 108
number Minus = 109
number Times = 110
number Slash = 111
number Dot = 112
number Bar = 113
number Variable = 114
number Number = 115
number Other = 116

-- from 1 on
abbrev pub kind_of : Class → ℕ
kind_of c = suc (number c)

-- a token of the class of each number
abbrev pub sample_text : ℕ → List ℕ
sample_text n = if n == 0 then codes "asm" else (if n == 1 then codes "module" else (if n == 2 then codes "import" else (if n == 3 then codes "export" else (if n == 4 then codes "signature" else (if n == 5 then codes "definitions" else (if n == 6 then codes "enum" else (if n == 7 then codes "domain" else (if n == 8 then codes "abstract" else (if n == 9 then codes "subsetof" else (if n == 10 then codes "dynamic" else (if n == 11 then codes "static" else (if n == 12 then codes "derived" else (if n == 13 then codes "controlled" else (if n == 14 then codes "monitored" else (if n == 15 then codes "shared" else (if n == 16 then codes "out" else (if n == 17 then codes "function" else (if n == 18 then codes "macro" else (if n == 19 then codes "rule" else (if n == 20 then codes "main" else (if n == 21 then codes "default" else (if n == 22 then codes "init" else (if n == 23 then codes "invariant" else (if n == 24 then codes "over" else (if n == 25 then codes "Prod" else (if n == 26 then codes "skip" else (if n == 27 then codes "par" else (if n == 28 then codes "endpar" else (if n == 29 then codes "seq" else (if n == 30 then codes "endseq" else (if n == 31 then codes "if" else (if n == 32 then codes "then" else (if n == 33 then codes "else" else (if n == 34 then codes "endif" else (if n == 35 then codes "switch" else (if n == 36 then codes "case" else (if n == 37 then codes "otherwise" else (if n == 38 then codes "endswitch" else (if n == 39 then codes "let" else (if n == 40 then codes "in" else (if n == 41 then codes "endlet" else (if n == 42 then codes "forall" else (if n == 43 then codes "exist" else (if n == 44 then codes "unique" else (if n == 45 then codes "with" else (if n == 46 then codes "do" else (if n == 47 then codes "choose" else (if n == 48 then codes "ifnone" else (if n == 49 then codes "true" else (if n == 50 then codes "false" else (if n == 51 then codes "undef" else (if n == 52 then codes "not" else (if n == 53 then codes "and" else (if n == 54 then codes "or" else (if n == 55 then codes "xor" else (if n == 56 then codes "implies" else (if n == 57 then codes "iff" else (if n == 58 then codes "mod" else (if n == 59 then codes "idiv" else (if n == 60 then codes "eq" else (if n == 61 then codes "neq" else (if n == 62 then codes "lt" else (if n == 63 then codes "le" else (if n == 64 then codes "gt" else (if n == 65 then codes "ge" else (if n == 66 then codes "plus" else (if n == 67 then codes "minus" else (if n == 68 then codes "mult" else (if n == 69 then codes "isDef" else (if n == 70 then codes "isUndef" else (if n == 71 then codes "min" else (if n == 72 then codes "max" else (if n == 73 then codes "abs" else (if n == 74 then codes "scenario" else (if n == 75 then codes "load" else (if n == 76 then codes "set" else (if n == 77 then codes "step" else (if n == 78 then codes "until" else (if n == 79 then codes "check" else (if n == 80 then codes "exec" else (if n == 81 then codes "begin" else (if n == 82 then codes "end" else (if n == 83 then codes "execblock" else (if n == 84 then codes "Real" else (if n == 85 then codes "r_" else (if n == 86 then codes "inv_" else (if n == 87 then codes "f" else (if n == 88 then codes "AA" else (if n == 89 then codes "A" else (if n == 90 then codes ":=" else (if n == 91 then codes "->" else (if n == 92 then codes "!=" else (if n == 93 then codes "<=" else (if n == 94 then codes ">=" else (if n == 95 then codes ".." else (if n == 96 then codes "{" else (if n == 97 then codes "}" else (if n == 98 then codes "(" else (if n == 99 then codes ")" else (if n == 100 then codes "[" else (if n == 101 then codes "]" else (if n == 102 then codes "," else (if n == 103 then codes ":" else (if n == 104 then codes ";" else (if n == 105 then codes "=" else (if n == 106 then codes "<" else (if n == 107 then codes ">" else (if n == 108 then codes "+" else (if n == 109 then codes "-" else (if n == 110 then codes "*" else (if n == 111 then codes "/" else (if n == 112 then codes "." else (if n == 113 then codes "|" else (if n == 114 then codes "$a" else (if n == 115 then codes "0" else ([]))))))))))))))))))))))))))))))))))))))))))))))))))))))))))))))))))))))))))))))))))))))))))))))))))))))))))))))))))))
