-- What worked basis files are computed from.
use Rattle.basis_book.proofs.Names.{◌≡◌, ◌≤◌, ℕ, List, [], ◌∷◌, All, refl, inl, inr, codes, pos, lit≤, lit<, arith, All-nil, All-cons, ints, IsPoints, BadBasisRow, csv_on_literals, Reached}
use Rattle.life_dates.specs.Calendar.{IsDay, ymd, day_number, days_before_year, days_of_months}
use Rattle.life_dates.specs.DayText.{IsDayText}
use Rattle.basis_book.specs.Name.{IsName, IsNameByte}
use Rattle.basis_book.specs.File.{IsBasisFile, IsFileFault}

-- three days
pub first_text : IsDayText (codes "2000-01-01") (pos 10957)
unfolding day_number days_before_year days_of_months
first_text = record {
  date = ymd 2000 1 1;
  is_date = record { year_low = lit≤ tt; year_high = lit≤ tt; month_low = lit≤ tt; month_high = lit≤ tt; day_low = lit≤ tt; day_high = lit≤ tt };
  is_text = refl;
  is_number = refl;
}

pub first_in : IsDay (pos 10957)
first_in = (omega (arith, ints), omega (arith, ints))

pub second_text : IsDayText (codes "2010-01-01") (pos 14610)
unfolding day_number days_before_year days_of_months
second_text = record {
  date = ymd 2010 1 1;
  is_date = record { year_low = lit≤ tt; year_high = lit≤ tt; month_low = lit≤ tt; month_high = lit≤ tt; day_low = lit≤ tt; day_high = lit≤ tt };
  is_text = refl;
  is_number = refl;
}

pub second_in : IsDay (pos 14610)
second_in = (omega (arith, ints), omega (arith, ints))

pub third_text : IsDayText (codes "2018-12-31") (pos 17896)
unfolding day_number days_before_year days_of_months
third_text = record {
  date = ymd 2018 12 31;
  is_date = record { year_low = lit≤ tt; year_high = lit≤ tt; month_low = lit≤ tt; month_high = lit≤ tt; day_low = lit≤ tt; day_high = lit≤ tt };
  is_text = refl;
  is_number = refl;
}

pub third_in : IsDay (pos 17896)
third_in = (omega (arith, ints), omega (arith, ints))

abbrev AreNameBytes : List ℕ → Type 0
AreNameBytes [] = Unit {0}
AreNameBytes (b ∷ bytes) = IsNameByte b × AreNameBytes bytes

name_bytes : (bytes : List ℕ) → AreNameBytes bytes → All IsNameByte bytes
name_bytes [] h = All-nil IsNameByte
name_bytes (b ∷ bytes) h = All-cons IsNameByte b bytes h.0 (name_bytes bytes h.1)

pub q_name : IsName (codes "q.xml")
q_name = record {
  some = lit≤ tt;
  short = lit≤ tt;
  first = inr (lit≤ tt, lit≤ tt);
  each = name_bytes (codes "q.xml") (inl (inr (lit≤ tt, lit≤ tt)), (inr (inl refl), (inl (inr (lit≤ tt, lit≤ tt)), (inl (inr (lit≤ tt, lit≤ tt)), (inl (inr (lit≤ tt, lit≤ tt)), tt)))));
}

pub g_name : IsName (codes "G-1_.x")
g_name = record {
  some = lit≤ tt;
  short = lit≤ tt;
  first = inl (inr (lit≤ tt, lit≤ tt));
  each = name_bytes (codes "G-1_.x") (inl (inl (inr (lit≤ tt, lit≤ tt))), (inr (inr (inr refl)), (inl (inl (inl (lit≤ tt, lit≤ tt))), (inr (inr (inl refl)), (inr (inl refl), (inl (inr (lit≤ tt, lit≤ tt)), tt))))));
}

pub no_points : IsPoints (codes "0") 0
no_points = record { digits = (lit< tt, tt); some = lit≤ tt; plain = λ long e. omega arith; value = refl; most = lit≤ tt }

pub one_point : IsPoints (codes "1") 1
one_point = record { digits = (lit< tt, tt); some = lit≤ tt; plain = λ long e. omega arith; value = refl; most = lit≤ tt }

pub two_points : IsPoints (codes "2") 2
two_points = record { digits = (lit< tt, tt); some = lit≤ tt; plain = λ long e. omega arith; value = refl; most = lit≤ tt }

pub four_percent : IsPoints (codes "400") 400
four_percent = record { digits = (lit< tt, (lit< tt, (lit< tt, tt))); some = lit≤ tt; plain = λ long e. let no : 52 ≡ 48 = e in omega arith; value = refl; most = lit≤ tt }

pub twenty_percent : IsPoints (codes "2000") 2000
twenty_percent = record { digits = (lit< tt, (lit< tt, (lit< tt, (lit< tt, tt)))); some = lit≤ tt; plain = λ long e. let no : 50 ≡ 48 = e in omega arith; value = refl; most = lit≤ tt }

-- more than 2000 points are none
pub too_many_points : (bp : ℕ) → IsPoints (codes "2001") bp → ⊥
too_many_points bp h =
    let value : 2001 ≡ bp = h.value in
    omega (arith, h.most)

-- a name begins with no point
pub no_name : IsName (codes ".xml") → ⊥
no_name h = elim h.first [
  | inl other ↦ elim other [
    | inl low ↦ let no : 48 ≤ 46 = low.0 in omega arith
    | inr low ↦ let no : 65 ≤ 46 = low.0 in omega arith
  ]
  | inr low ↦ let no : 97 ≤ 46 = low.0 in omega arith
]

-- a file of one row
pub one_right_row : IsBasisFile (codes "2000-01-01,q.xml,400\n") ((record { from_day = pos 10957; table = codes "q.xml"; bp = 400 }) ∷ [])
unfolding csv_on_literals Reached
one_right_row = (
  (codes "2000-01-01" ∷ codes "q.xml" ∷ codes "400" ∷ []) ∷ [],
  (_, _, (_, refl, refl, (refl, refl)), refl),
  lit≤ tt,
  record { each = ((first_text, first_in, q_name, refl, four_percent), tt); rise = tt },
)

-- a file of one row, which lacks a field
pub one_bad_row : IsFileFault (codes "2000-01-01,q.xml\n") (BadBasisRow 1)
unfolding csv_on_literals Reached
one_bad_row = (
  (codes "2000-01-01" ∷ codes "q.xml" ∷ []) ∷ [],
  (_, _, (_, refl, refl, (refl, refl)), refl),
  (
    lit≤ tt,
    record {
      before = [];
      fields = codes "2000-01-01" ∷ codes "q.xml" ∷ [];
      good = [];
      rest = [];
      split = refl;
      number = refl;
      right = record { each = tt; rise = tt };
      wrong = λ row h. h;
    },
  ),
)
