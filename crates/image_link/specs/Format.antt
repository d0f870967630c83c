-- The bytes of an image.
use Rattle.std.specs.Prelude.{◌+◌, ◌++◌, ℕ, List, codes, encode_utf8_all, flat_map, length, unwrap_or}
use Rattle.std.specs.Int.{w16, w32, w64, to_le_bytes}
use Rattle.sha2.specs.Sha256.{sha256}
use Rattle.image_link.specs.declared.image.Function.{Function}
use Rattle.image_link.specs.declared.numbers.TheConstants.{NO_NAME, VERSION}
use Rattle.image_link.specs.Image.{ProgramImage}

-- numbers of two, four and eight bytes, the lowest byte first
unfoldable pub two : ℕ → List ℕ
two n = to_le_bytes w16 n

unfoldable pub four : ℕ → List ℕ
four n = to_le_bytes w32 n

unfoldable pub eight : ℕ → List ℕ
eight n = to_le_bytes w64 n

-- an atom: how many bytes its UTF-8 has, and these
abbrev pub atom_bytes : List ℕ → List ℕ
atom_bytes atom = two (length (encode_utf8_all atom)) ++ encode_utf8_all atom

-- a function: its name's atom, its arity, how many values it captures, the offset of its closure entry
abbrev pub function_bytes : Function → List ℕ
function_bytes f = four (unwrap_or f.name NO_NAME) ++ four f.arity ++ four f.captured ++ four f.closure_entry

-- atoms, functions and exports
abbrev pub tables : ProgramImage → List ℕ
tables i = flat_map atom_bytes i.atoms ++ flat_map function_bytes i.functions ++ flat_map four i.exports

-- the header, the tables, the code and the digest
abbrev pub whole_length : ProgramImage → ℕ
whole_length i = 40 + length (tables i) + length i.code + 32

-- magic, version, whole length, how many atoms, functions, exports and unwind entries, the module's atom, the code's length
abbrev pub header : ProgramImage → List ℕ
header i =
    codes "HIPE" ++ four VERSION ++ eight (whole_length i)
    ++ four (length i.atoms) ++ four (length i.functions) ++ four (length i.exports) ++ four 0
    ++ four i.module_atom ++ four (length i.code)

-- all that the digest is of
abbrev pub text_of : ProgramImage → List ℕ
text_of i = header i ++ tables i ++ i.code

abbrev pub bytes_of : ProgramImage → List ℕ
bytes_of i = text_of i ++ sha256 (text_of i)
