-- The words of the language outside this profile.
use Rattle.std.specs.Prelude.{ℕ, List, [], ◌∷◌, Bool, false, ◌==◌, if◌then◌else◌, codes}
use Rattle.std.specs.List.{list_any}
use Rattle.std.specs.Str.{bytes_eq}

-- the keywords (IEEE 1364-2005, annex B) that begin with a letter and stand for no construct of the profile
abbrev pub construct_words : ℕ → List (List ℕ)
construct_words letter =
    if letter == 97 then codes "always" ∷ codes "automatic" ∷ []
    else (if letter == 98 then codes "begin" ∷ codes "bufif0" ∷ codes "bufif1" ∷ []
    else (if letter == 99 then codes "case" ∷ codes "casex" ∷ codes "casez" ∷ codes "cell" ∷ codes "cmos" ∷ codes "config" ∷ []
    else (if letter == 100 then codes "deassign" ∷ codes "default" ∷ codes "defparam" ∷ codes "design" ∷ codes "disable" ∷ []
    else (if letter == 101 then codes "edge" ∷ codes "else" ∷ codes "end" ∷ codes "endcase" ∷ codes "endconfig" ∷ codes "endfunction" ∷ codes "endgenerate" ∷ codes "endprimitive" ∷ codes "endspecify" ∷ codes "endtable" ∷ codes "endtask" ∷ codes "event" ∷ []
    else (if letter == 102 then codes "for" ∷ codes "force" ∷ codes "forever" ∷ codes "fork" ∷ codes "function" ∷ []
    else (if letter == 103 then codes "generate" ∷ codes "genvar" ∷ []
    else (if letter == 104 then codes "highz0" ∷ codes "highz1" ∷ []
    else (if letter == 105 then codes "if" ∷ codes "ifnone" ∷ codes "incdir" ∷ codes "include" ∷ codes "initial" ∷ codes "inout" ∷ codes "instance" ∷ codes "integer" ∷ []
    else (if letter == 106 then codes "join" ∷ []
    else (if letter == 108 then codes "large" ∷ codes "liblist" ∷ codes "library" ∷ codes "localparam" ∷ []
    else (if letter == 109 then codes "macromodule" ∷ codes "medium" ∷ []
    else (if letter == 110 then codes "negedge" ∷ codes "nmos" ∷ codes "noshowcancelled" ∷ codes "notif0" ∷ codes "notif1" ∷ []
    else (if letter == 112 then codes "parameter" ∷ codes "pmos" ∷ codes "posedge" ∷ codes "primitive" ∷ codes "pull0" ∷ codes "pull1" ∷ codes "pulldown" ∷ codes "pullup" ∷ codes "pulsestyle_ondetect" ∷ codes "pulsestyle_onevent" ∷ []
    else (if letter == 114 then codes "rcmos" ∷ codes "real" ∷ codes "realtime" ∷ codes "reg" ∷ codes "release" ∷ codes "repeat" ∷ codes "rnmos" ∷ codes "rpmos" ∷ codes "rtran" ∷ codes "rtranif0" ∷ codes "rtranif1" ∷ []
    else (if letter == 115 then codes "scalared" ∷ codes "showcancelled" ∷ codes "signed" ∷ codes "small" ∷ codes "specify" ∷ codes "specparam" ∷ codes "strong0" ∷ codes "strong1" ∷ codes "supply0" ∷ codes "supply1" ∷ []
    else (if letter == 116 then codes "table" ∷ codes "task" ∷ codes "time" ∷ codes "tran" ∷ codes "tranif0" ∷ codes "tranif1" ∷ codes "tri" ∷ codes "tri0" ∷ codes "tri1" ∷ codes "triand" ∷ codes "trior" ∷ codes "trireg" ∷ []
    else (if letter == 117 then codes "unsigned" ∷ codes "use" ∷ codes "uwire" ∷ []
    else (if letter == 118 then codes "vectored" ∷ []
    else (if letter == 119 then codes "wait" ∷ codes "wand" ∷ codes "weak0" ∷ codes "weak1" ∷ codes "while" ∷ codes "wor" ∷ []
    else [])))))))))))))))))))

-- the word is one of them
abbrev pub is_construct : List ℕ → Bool
is_construct [] = false
is_construct (b ∷ word) = list_any (bytes_eq (b ∷ word)) (construct_words b)
