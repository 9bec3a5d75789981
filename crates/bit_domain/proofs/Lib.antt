mod BitLaws
mod MemberLaws
mod DomLaws
