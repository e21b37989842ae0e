-- An answer as four numbers: the result is 0 where accepted, else the rule's number; then the answer's numbers in order.
use Rattle.std.specs.Prelude.{◌≡◌, ℕ}
use Rattle.circuit.specs.Answer.{Answer, accepted, refused}
use Rattle.text.specs.Answer.{TextAnswer, accepted as taken, refused as untaken}
use Rattle.counting.specs.Counting.{CountAnswer, accepted as counted, refused as uncounted}

-- accepted: wires, random bits, latency; refused: frame, word, 0
abbrev pub result : Answer → ℕ
result (accepted wires randoms latency) = 0
result (refused rule frame word) = rule

abbrev pub first : Answer → ℕ
first (accepted wires randoms latency) = wires
first (refused rule frame word) = frame

abbrev pub second : Answer → ℕ
second (accepted wires randoms latency) = randoms
second (refused rule frame word) = word

abbrev pub third : Answer → ℕ
third (accepted wires randoms latency) = latency
third (refused rule frame word) = 0

pub record AnswerIs (answer : Answer) (r a b c : ℕ) : Type 0 where
  pub result_is : r ≡ result answer
  pub first_is : a ≡ first answer
  pub second_is : b ≡ second answer
  pub third_is : c ≡ third answer

-- text, accepted: words read or bytes written, 0; refused: line (of a table: frame), word
abbrev pub text_result : TextAnswer → ℕ
text_result (taken count) = 0
text_result (untaken rule line word) = rule

abbrev pub text_first : TextAnswer → ℕ
text_first (taken count) = count
text_first (untaken rule line word) = line

abbrev pub text_second : TextAnswer → ℕ
text_second (taken count) = 0
text_second (untaken rule line word) = word

pub record TextAnswerIs (answer : TextAnswer) (r a b : ℕ) : Type 0 where
  pub result_is : r ≡ text_result answer
  pub first_is : a ≡ text_first answer
  pub second_is : b ≡ text_second answer

-- counts, accepted: wires read, combinations, pairs of one set; refused: frame, word, 0
abbrev pub count_result : CountAnswer → ℕ
count_result (counted read combinations pairs) = 0
count_result (uncounted rule frame word) = rule

abbrev pub count_first : CountAnswer → ℕ
count_first (counted read combinations pairs) = read
count_first (uncounted rule frame word) = frame

abbrev pub count_second : CountAnswer → ℕ
count_second (counted read combinations pairs) = combinations
count_second (uncounted rule frame word) = word

abbrev pub count_third : CountAnswer → ℕ
count_third (counted read combinations pairs) = pairs
count_third (uncounted rule frame word) = 0

pub record CountAnswerIs (answer : CountAnswer) (r a b c : ℕ) : Type 0 where
  pub result_is : r ≡ count_result answer
  pub first_is : a ≡ count_first answer
  pub second_is : b ≡ count_second answer
  pub third_is : c ≡ count_third answer
