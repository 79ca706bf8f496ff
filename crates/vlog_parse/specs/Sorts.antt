-- What a token is to the grammar: its sort.
use Rattle.std.specs.Prelude.{ℕ, Bool, true, false, ◌==◌}
use Rattle.vlog_parse.specs.declared.sort.Sort.{Sort}
use Rattle.vlog_parse.specs.declared.sort.Sort.TheVariants.{Name, Module, EndModule, Input, Output, Wire, Assign, And, Nand, Or, Nor, Xor, Xnor, Buf, Not, Number, Sized, Text, LeftParenthesis, RightParenthesis, LeftBracket, RightBracket, LeftBrace, RightBrace, Comma, Semicolon, Colon, Dot, Equals, Hash, Outside}

-- the sorts, numbered in the order of their declaration
abbrev pub index_of : Sort → ℕ
index_of Name = 0
index_of Module = 1
index_of EndModule = 2
index_of Input = 3
index_of Output = 4
index_of Wire = 5
index_of Assign = 6
index_of And = 7
index_of Nand = 8
index_of Or = 9
index_of Nor = 10
index_of Xor = 11
index_of Xnor = 12
index_of Buf = 13
index_of Not = 14
index_of Number = 15
index_of Sized = 16
index_of Text = 17
index_of LeftParenthesis = 18
index_of RightParenthesis = 19
index_of LeftBracket = 20
index_of RightBracket = 21
index_of LeftBrace = 22
index_of RightBrace = 23
index_of Comma = 24
index_of Semicolon = 25
index_of Colon = 26
index_of Dot = 27
index_of Equals = 28
index_of Hash = 29
index_of Outside = 30

abbrev pub same : Sort → Sort → Bool
same sort other = index_of sort == index_of other

abbrev pub is_direction : Sort → Bool
is_direction Input = true
is_direction Output = true
is_direction sort = false

abbrev pub is_gate : Sort → Bool
is_gate And = true
is_gate Nand = true
is_gate Or = true
is_gate Nor = true
is_gate Xor = true
is_gate Xnor = true
is_gate Buf = true
is_gate Not = true
is_gate sort = false

-- an item of a module begins so
abbrev pub begins_item : Sort → Bool
begins_item Name = true
begins_item Input = true
begins_item Output = true
begins_item Wire = true
begins_item Assign = true
begins_item And = true
begins_item Nand = true
begins_item Or = true
begins_item Nor = true
begins_item Xor = true
begins_item Xnor = true
begins_item Buf = true
begins_item Not = true
begins_item sort = false

-- an expression begins so
abbrev pub begins_expr : Sort → Bool
begins_expr Name = true
begins_expr Sized = true
begins_expr LeftBrace = true
begins_expr sort = false

-- the value of a parameter begins so
abbrev pub is_value : Sort → Bool
is_value Number = true
is_value Sized = true
is_value Text = true
is_value sort = false
