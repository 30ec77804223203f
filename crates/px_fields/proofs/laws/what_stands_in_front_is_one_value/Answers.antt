use Rattle.px_fields.proofs.OneValue.{one_flag, one_kind, one_optional, one_text, one_u32, one_u64}
use Rattle.px_fields.proofs.laws.what_stands_in_front_is_one_value.Goals as goal

pub returns-clause-u32 : goal.returns-clause-u32
returns-clause-u32 c = one_u32

pub returns-clause-u64 : goal.returns-clause-u64
returns-clause-u64 c = one_u64

pub returns-clause-flag : goal.returns-clause-flag
returns-clause-flag c = one_flag

pub returns-clause-optional : goal.returns-clause-optional
returns-clause-optional c = one_optional

pub returns-clause-kind : goal.returns-clause-kind
returns-clause-kind c = one_kind

pub returns-clause-text : goal.returns-clause-text
returns-clause-text c = one_text
