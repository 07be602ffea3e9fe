-- The widths of words.
use Rattle.std.specs.Prelude.{ℕ}
use Rattle.tm_terms.specs.declared.sort.Sort.{Sort}
use Rattle.tm_terms.specs.declared.sort.Sort.TheVariants.{Bool as Truth, W16, W32, W64}

-- how many bits a word of a sort has
abbrev pub width_of : Sort → ℕ
width_of Truth = 1
width_of W16 = 16
width_of W32 = 32
width_of W64 = 64
