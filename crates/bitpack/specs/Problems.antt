-- What is wrong with a line, and what is printed of it. Characters are their codes. Assumes nothing.
use Rattle.std.specs.Prelude.{ℕ, List, ◌++◌, codes, decimal}
use Rattle.bitpack.specs.declared.problem.Problem.{Problem}
use Rattle.bitpack.specs.declared.problem.Problem.TheVariants.{Usage, KemWidth, DsaWidth, NoNumber, TooLarge, Numbers, NotHex, Bytes}

abbrev pub text_of : Problem → List ℕ
text_of Usage = codes "a line is: kem|dsa pack WIDTH NUMBERS, or kem|dsa unpack WIDTH DIGITS"
text_of KemWidth = codes "the width of ML-KEM's numbers is 1, 4, 5, 6, 10, 11 or 12"
text_of DsaWidth = codes "the width of ML-DSA's numbers is 3, 4, 6, 10, 13, 18 or 20"
text_of NoNumber = codes "a word is not a number"
text_of TooLarge = codes "a number does not fit the width"
text_of (Numbers n) = decimal n ++ codes " numbers, where 256 are wanted"
text_of NotHex = codes "the bytes are not hexadecimal digits, an even number of them"
text_of (Bytes n want) = decimal n ++ (codes " bytes, where " ++ (decimal want ++ codes " are wanted"))
